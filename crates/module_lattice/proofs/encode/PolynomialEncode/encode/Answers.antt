use Rattle.std.proofs.Common.{rules, refl, ◌^◌, ◌<◌, []}
use Rattle.std.proofs.lemmas.List.Elements.{All-same}
use Rattle.module_lattice.proofs.Encoding.{All-one}
use Rattle.module_lattice.proofs.encode.PolynomialEncode.encode.Goals as goal

pub byte_encode-requires-clause-in_width : goal.byte_encode-requires-clause-in_width
byte_encode-requires-clause-in_width g c =
    All-same (λ x. x < 2 ^ c.args.d) _ _ c.as_array.ensures.value (c.requires.in_width 0 [] (search rules))

pub returns-clause-polynomials : goal.returns-clause-polynomials
returns-clause-polynomials g c = All-one g.F.Field.Q c.args.self.now c.args.self.now refl c.as_array.ensures.polynomial
