use Rattle.std.proofs.Common.{◌≡◌, map}
use Rattle.std.specs.List.{range_with_len}
use Rattle.lattice_transform.specs.Transform.{transform}
use Rattle.ml_kem.specs.Matrix.{noise_polynomial}
use Rattle.ml_kem.proofs.matrix.noise_transforms.Given as goal

abbrev pub invariant-loop-i : goal.invariant-loop-i
invariant-loop-i g l = l.items.items ≡ map (λ b. transform (noise_polynomial g.H.KemHash.family l.eta l.seed b)) (range_with_len l.first l.i)
