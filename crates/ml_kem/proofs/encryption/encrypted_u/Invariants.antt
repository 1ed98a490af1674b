use Rattle.std.proofs.Common.{◌≡◌, ◌+◌, map}
use Rattle.std.specs.List.{range_with_len}
use Rattle.module_lattice.specs.Pairs.{pair_products}
use Rattle.module_lattice.specs.Ring.{sum}
use Rattle.module_lattice.specs.Vectors.{dot_product}
use Rattle.lattice_transform.specs.Transform.{inverse_transform}
use Rattle.ml_kem.specs.Matrix.{column, noise_polynomial}
use Rattle.ml_kem.proofs.encryption.encrypted_u.Given as goal

abbrev pub invariant-loop-i : goal.invariant-loop-i
invariant-loop-i g l = l.items.items
    ≡ map (λ i. sum 3329 (inverse_transform (dot_product 3329 pair_products (column l.a i) l.y_hat)) (noise_polynomial g.H.KemHash.family g.P.ParameterSet.ETA2 l.r (g.P.ParameterSet.K + i)))
    (range_with_len 0 l.i)
