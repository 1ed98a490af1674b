use Rattle.std.proofs.Common.{sym, ◌∙◌}
use Rattle.std.proofs.lemmas.List.{append_cancel_right}
use Rattle.age_format.specs.Stanza.{spelling}
use Rattle.age_format.proofs.laws.what_is_read_is_consumed.Goals as goal

pub returns : goal.returns
returns c text consumed rest s front same = append_cancel_right consumed (spelling s) rest (sym front ∙ same)
