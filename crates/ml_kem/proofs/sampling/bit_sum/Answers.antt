use Rattle.std.proofs.Common.{ℕ, ◌+◌, refl, sym, ap₂, ◌∙◌, arith}
use Rattle.module_lattice.specs.Bits.{byte_bit}
use Rattle.ml_kem.proofs.Ranges.{sum_by-range_more}
use Rattle.ml_kem.proofs.sampling.bit_sum.Goals as goal

pub loop-n-preserved : goal.loop-n-preserved
loop-n-preserved c =
    let k : ℕ = c.args.first + c.loop-n.n in
    record {
      value = ap₂ (λ (x y : ℕ). x + y) c.loop-n.invariant.value c.bit-sum.ensures.value ∙ sym (sum_by-range_more (byte_bit c.args.bytes.now) c.args.first c.loop-n.n k refl);
      small = omega (arith, c.loop-n.invariant.small, c.bit-sum.ensures.small);
    }
