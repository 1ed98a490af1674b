use Rattle.std.proofs.Common.{◌≡◌, ◌+◌, length, map}
use Rattle.age_format.specs.Stanza.{stanza_of}
use Rattle.kem_mail.proofs.Takings.{Given}
use Rattle.kem_mail.proofs.open.stanzas_before_done.Given as goal

-- the stanzas so far were given, and none of them is a `done`
abbrev pub invariant-loop-stanza : goal.invariant-loop-stanza
invariant-loop-stanza g l =
    let left = g.S.Source.left in
    record {
      given : Given l.fn.budget l.reader (left l.fn.src) (left l.src) (map stanza_of l.stanzas.items);
      no_fault : g.S.Source.faults l.src ≡ g.S.Source.faults l.fn.src;
    }

abbrev pub decreases-loop-stanza : goal.decreases-loop-stanza
decreases-loop-stanza g l = length l.reader.bytes + l.reader.budget
