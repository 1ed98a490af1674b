use Rattle.ml_kem.proofs.OwnForm.{own-equal, own-form}
use Rattle.ml_kem.proofs.laws.reads_its_own_expanded_form.Goals as goal

pub returns-clause-accepted : goal.returns-clause-accepted
returns-clause-accepted c = own-form

pub returns-clause-equal : goal.returns-clause-equal
returns-clause-equal c = own-equal
