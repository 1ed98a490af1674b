use Rattle.std.proofs.Common.{◌≡◌, List, ℕ, ◌++◌, ◌*◌, ◌+◌, ◌-◌, take, get_or, ap, ◌∙◌, sym, length, arith}
use Rattle.std.proofs.lemmas.Slice.{take-put_mid}
use Rattle.std.proofs.lemmas.List.{take_all}
use Rattle.std.specs.Int.{w64, to_le_bytes}
use Rattle.sha3.specs.Sponge.{state_bytes}
use Rattle.sha3.proofs.Fronts.{length-put_part}
use Rattle.sha3.proofs.Squeezing.{take-state_bytes}
use Rattle.sha3.proofs.squeeze.first_bytes.Goals as goal

pub loop-k-preserved : goal.loop-k-preserved
loop-k-preserved c =
    let k : ℕ = c.loop-k.k in
    let lane : ℕ = get_or c.args.state.now k 0 in
    let same : c.copy_from_slice.new.self ≡ to_le_bytes w64 lane = c.copy_from_slice.ensures.after ∙ c.to_le_bytes.ensures in
    let size : length c.copy_from_slice.new.self ≡ 8 = ap length same in
    record {
      size = length-put_part (8 * k) (8 * k + 8 - 8 * k) c.loop-k.block c.copy_from_slice.new.self (omega (arith, c.loop-k.invariant.size)) (omega (arith, size)) ∙ c.loop-k.invariant.size;
      done =
          take-put_mid (8 * k) (8 * k + 8 - 8 * k) c.loop-k.block c.copy_from_slice.new.self (8 * (k + 1)) (omega (arith, size)) (omega (arith, c.loop-k.invariant.size))
          ∙ ap (λ (x : List ℕ). take (8 * k) c.loop-k.block ++ x) same
          ∙ ap (λ (x : List ℕ). x ++ to_le_bytes w64 lane) c.loop-k.invariant.done
          ∙ sym (take-state_bytes c.args.state.now k (omega (arith, c.told-state)));
    }

pub returns : goal.returns
returns c =
    let last : 8 * c.loop-k.k ≡ 168 = omega arith in
    sym (take_all (8 * c.loop-k.k) c.loop-k.block (omega (arith, c.loop-k.invariant.size))) ∙ c.loop-k.invariant.done
    ∙ ap (λ (n : ℕ). take n (state_bytes c.args.state.now)) last
