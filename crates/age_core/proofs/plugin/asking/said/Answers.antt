use Rattle.std.proofs.Common.{refl, sym, ◌∙◌}
use Rattle.std.specs.Prelude.{codes}
use Rattle.std.specs.String.{string_bytes}
use Rattle.age_core.proofs.Asking.{tag_is, tag_is_not}
use Rattle.age_core.proofs.plugin.asking.said.Goals as goal

pub returns-then-has_tag : goal.returns-then-has_tag
returns-then-has_tag c = (refl, tag_is (string_bytes c.args.reply.tag) (codes "ok") (sym c.has_tag.ensures ∙ c.if-has_tag.true))

pub returns-then-has_tag-2 : goal.returns-then-has_tag-2
returns-then-has_tag-2 c = tag_is (string_bytes c.args.reply.tag) (codes "fail") (sym c.has_tag-2.ensures ∙ c.if-has_tag-2.true)

pub returns-then-has_tag-3 : goal.returns-then-has_tag-3
returns-then-has_tag-3 c = tag_is (string_bytes c.args.reply.tag) (codes "unsupported") (sym c.has_tag-3.ensures ∙ c.if-has_tag-3.true)

pub returns : goal.returns
returns c = (
  refl,
  tag_is_not (string_bytes c.args.reply.tag) (codes "ok") (sym c.has_tag.ensures ∙ c.if-has_tag.false),
  tag_is_not (string_bytes c.args.reply.tag) (codes "fail") (sym c.has_tag-2.ensures ∙ c.if-has_tag-2.false),
  tag_is_not (string_bytes c.args.reply.tag) (codes "unsupported") (sym c.has_tag-3.ensures ∙ c.if-has_tag-3.false),
)
