use Rattle.std.proofs.Common.{◌<◌, arith}
use Rattle.std.proofs.lemmas.List.Elements.{All-replicate}
use Rattle.module_lattice.proofs.ntt_polynomial.NttPolynomialDefault.default.Goals as goal

pub new-requires : goal.new-requires
new-requires g c = All-replicate (λ x. x < g.F.Field.Q) 256 0 (omega (arith, g.met.F.Field.at_least_two))
