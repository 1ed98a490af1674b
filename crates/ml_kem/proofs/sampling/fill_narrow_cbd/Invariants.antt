use Rattle.std.proofs.Common.{◌≡◌, ℕ, ◌*◌, ◌<◌, get_or}
use Rattle.ml_kem.specs.Samples.{cbd_coefficient}
use Rattle.ml_kem.proofs.sampling.fill_narrow_cbd.Given as goal

abbrev pub invariant-loop-t : goal.invariant-loop-t
invariant-loop-t l = (k : ℕ) → k < 2 * l.t → get_or l.out k 0 ≡ cbd_coefficient 2 l.bytes k
