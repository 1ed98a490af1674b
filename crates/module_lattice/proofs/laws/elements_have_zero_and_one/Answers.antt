use Rattle.module_lattice.proofs.Modular.{minus-negated}
use Rattle.module_lattice.proofs.laws.elements_have_zero_and_one.Goals as goal

pub returns-clause-minus_is_plus_negated : goal.returns-clause-minus_is_plus_negated
returns-clause-minus_is_plus_negated g c = minus-negated _ c.args.a c.args.b
