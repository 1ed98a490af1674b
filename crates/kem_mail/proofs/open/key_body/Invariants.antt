use Rattle.std.proofs.Common.{◌≡◌, ◌≤◌, ◌∷◌, [], length, map, take}
use Rattle.std.specs.Prelude.{codes}
use Rattle.age_format.specs.Stanza.{stanza_of}
use Rattle.kem_mail.specs.Mail.{bodies}
use Rattle.kem_mail.proofs.open.key_body.Given as goal

-- the number of the bodies so far, and the last of them
abbrev pub invariant-loop-stanza : goal.invariant-loop-stanza
invariant-loop-stanza l = record {
  count : l.count ≡ length (bodies (codes "kem") (map stanza_of (take l.stanza-index l.stanzas)));
  few : l.count ≤ l.stanza-index;
  found : l.count ≡ 1 → bodies (codes "kem") (map stanza_of (take l.stanza-index l.stanzas)) ≡ l.found ∷ [];
}
