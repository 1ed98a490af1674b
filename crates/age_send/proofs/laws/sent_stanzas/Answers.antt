use Rattle.age_send.specs.Sending.{first_roll}
use Rattle.age_send.proofs.Greases.{gives_roll, roll_is_stanza}
use Rattle.age_send.proofs.Sends.{after_grease}
use Rattle.age_send.proofs.laws.sent_stanzas.Goals as goal

pub returns : goal.returns
returns c sent stream is gives = after_grease sent stream (roll_is_stanza stream gives) (roll_is_stanza (first_roll stream).1 (gives_roll stream gives)) is
