use Rattle.std.proofs.Common.{map, refl, sym, ◌∙◌}
use Rattle.std.specs.String.{string_bytes}
use Rattle.std.proofs.lemmas.Fn.{called_at}
use Rattle.age_format.specs.Stanza.{stanza_of}
use Rattle.age_core.specs.Replies.{is_among, reply_of, unsupported_reply}
use Rattle.age_core.proofs.Handling.{match_true, match_false}
use Rattle.age_core.proofs.plugin.connection.Connection.respond.Goals as goal

pub answer-requires : goal.answer-requires
answer-requires g c =
    (c.requires (sym c.has_tag_among.ensures ∙ c.if-has_tag_among.true)).spelled c.handler-given.result c.handler-given.new.self (called_at g.F.FnMut c.handler-given.ensures refl)

pub returns-then-has_tag_among-clause-written : goal.returns-then-has_tag_among-clause-written
returns-then-has_tag_among-clause-written g c = (
  reply_of c.handler-given.result,
  match_true (is_among (map string_bytes c.args.commands.now) (stanza_of c.args.stanza.now)) _ _ (sym c.has_tag_among.ensures ∙ c.if-has_tag_among.true)
      (c.handler-given.result, called_at g.F.FnMut c.handler-given.ensures refl, refl),
  c.answer.ensures.written,
)

pub returns-clause-written : goal.returns-clause-written
returns-clause-written g c = (
  unsupported_reply,
  match_false (is_among (map string_bytes c.args.commands.now) (stanza_of c.args.stanza.now)) _ _ (sym c.has_tag_among.ensures ∙ c.if-has_tag_among.false) (refl, refl),
  c.reply_unsupported.ensures.written,
)
