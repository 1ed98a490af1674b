use Rattle.module_lattice.proofs.Encoding.{All-one}
use Rattle.module_lattice.proofs.encode.PolynomialEncode.decode.Goals as goal

pub returns-clause-polynomials : goal.returns-clause-polynomials
returns-clause-polynomials g c = All-one g.F.Field.Q c.new.result c.decode_one.result c.new.ensures c.decode_one.ensures.polynomial
