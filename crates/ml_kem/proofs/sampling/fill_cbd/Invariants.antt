use Rattle.std.proofs.Common.{◌≡◌, ℕ, ◌<◌, get_or}
use Rattle.ml_kem.specs.Samples.{cbd_coefficient}
use Rattle.ml_kem.proofs.sampling.fill_cbd.Given as goal

abbrev pub invariant-loop-i : goal.invariant-loop-i
invariant-loop-i l = (k : ℕ) → k < l.i → get_or l.out k 0 ≡ cbd_coefficient l.eta l.bytes k
