use Rattle.std.proofs.Common.{◌≡◌, ◌≤◌, sum_by}
use Rattle.std.specs.List.{range_with_len}
use Rattle.module_lattice.specs.Bits.{byte_bit}
use Rattle.ml_kem.proofs.sampling.bit_sum.Given as goal

abbrev pub invariant-loop-n : goal.invariant-loop-n
invariant-loop-n l = record {
  value : l.sum ≡ sum_by (byte_bit l.bytes) (range_with_len l.first l.n);
  small : l.sum ≤ l.n;
}
