use Rattle.std.proofs.Common.{◌≡◌, ℕ, List, drop, map}
use Rattle.std.specs.List.{list_any}
use Rattle.std.specs.Str.{bytes_eq}
use Rattle.std.specs.String.{string_bytes}
use Rattle.age_core.proofs.plugin.reply.has_tag_among.Given as goal

-- no command so far was the tag
abbrev pub invariant-loop-command : goal.invariant-loop-command
invariant-loop-command l =
    let is_tag = λ (command : List ℕ). bytes_eq (string_bytes l.stanza.tag) command in
    list_any is_tag (map string_bytes l.commands) ≡ list_any is_tag (map string_bytes (drop l.command-index l.commands))
