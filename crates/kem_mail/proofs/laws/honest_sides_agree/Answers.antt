use Rattle.kem_mail.proofs.Honest.{honest_context, honest_secret, setup_there}
use Rattle.kem_mail.proofs.laws.honest_sides_agree.Goals as goal

pub returns-clause-secret : goal.returns-clause-secret
returns-clause-secret c = honest_secret

pub returns-clause-context : goal.returns-clause-context
returns-clause-context c = honest_context

pub returns-clause-there : goal.returns-clause-there
returns-clause-there c = setup_there
