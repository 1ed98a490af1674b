use Rattle.lattice_transform.proofs.Polynomials.{IsPolynomial-inverse, IsPolynomial-transform}
use Rattle.lattice_transform.proofs.laws.transforms_are_polynomials.Goals as goal

pub returns-clause-transform : goal.returns-clause-transform
returns-clause-transform c = IsPolynomial-transform

pub returns-clause-inverse : goal.returns-clause-inverse
returns-clause-inverse c = IsPolynomial-inverse
