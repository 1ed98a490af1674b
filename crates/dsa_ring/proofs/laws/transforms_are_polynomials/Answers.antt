use Rattle.dsa_ring.proofs.Inverse.{IsPolynomial-inverse, IsPolynomial-transform}
use Rattle.dsa_ring.proofs.laws.transforms_are_polynomials.Goals as goal

pub returns-clause-transform : goal.returns-clause-transform
returns-clause-transform c = IsPolynomial-transform

pub returns-clause-inverse : goal.returns-clause-inverse
returns-clause-inverse c = IsPolynomial-inverse
