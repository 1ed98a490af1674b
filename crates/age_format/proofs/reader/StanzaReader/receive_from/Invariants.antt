use Rattle.std.proofs.Common.{◌≡◌, []}
use Rattle.age_format.specs.Stanza.{IsFront}
use Rattle.age_format.specs.Receiving.{Receives}
use Rattle.age_format.proofs.Receipts.{Last}
use Rattle.age_format.proofs.reader.StanzaReader.receive_from.Given as goal

-- what was read so far is held, and it was read behind fronts alone
abbrev pub invariant-loop-stanza : goal.invariant-loop-stanza
invariant-loop-stanza g l =
    let left = g.S.Source.left in
    record {
      received : Receives l.fn.self l.self (left l.fn.source) (left l.source) [];
      unread : (IsFront l.fn.self.bytes → ⊥) → (l.self ≡ l.fn.self) × (l.source ≡ l.fn.source);
      last : Last l.fn.self l.self l.fn.source l.source;
      no_fault : g.S.Source.faults l.source ≡ g.S.Source.faults l.fn.source;
    }

abbrev pub decreases-loop-stanza : goal.decreases-loop-stanza
decreases-loop-stanza g l = l.self.budget
