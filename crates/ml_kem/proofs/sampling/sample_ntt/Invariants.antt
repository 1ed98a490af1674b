use Rattle.std.proofs.Common.{◌≡◌, ◌-◌, ◌*◌, ◌≤◌, take}
use Rattle.ml_kem.specs.Samples.{accepted}
use Rattle.ml_kem.proofs.sampling.sample_ntt.Given as goal

abbrev pub invariant-loop-sampler : goal.invariant-loop-sampler
invariant-loop-sampler g l = record {
  taken : l.sampler ≡ take 256 (accepted (take (168 * l.n) (g.H.KemHash.family.xof_of l.rho l.a l.b)));
  within : l.n ≤ 16;
}

abbrev pub decreases-loop-sampler : goal.decreases-loop-sampler
decreases-loop-sampler g l = 16 - l.n
