use Rattle.kem_mail.proofs.Keyed.{same_bodies_by_key}
use Rattle.kem_mail.proofs.Verdicts.{same_bodies_verdict}
use Rattle.kem_mail.proofs.laws.same_bodies.Goals as goal

pub returns-clause-opens : goal.returns-clause-opens
returns-clause-opens c = λ opener text other budget limit verdict same opens. same_bodies_verdict opener text other budget limit verdict same opens

pub returns-clause-by_key : goal.returns-clause-by_key
returns-clause-by_key c = λ set family kdf aead open_of seed info text other budget limit verdict same opens. same_bodies_by_key set family kdf aead open_of seed info text other budget limit verdict same opens
