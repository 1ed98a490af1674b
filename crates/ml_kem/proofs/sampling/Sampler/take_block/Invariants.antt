use Rattle.std.proofs.Common.{◌≡◌, ◌*◌, ◌++◌, take}
use Rattle.ml_kem.specs.Samples.{accepted}
use Rattle.ml_kem.proofs.sampling.Sampler.take_block.Given as goal

abbrev pub invariant-loop-t : goal.invariant-loop-t
invariant-loop-t l = l.self ≡ take 256 (l.fn.self ++ accepted (take (3 * l.t) l.block))
