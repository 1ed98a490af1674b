use Rattle.std.proofs.Common.{List, length, ◌+◌, map}
use Rattle.std.specs.Fn.{CalledAt}
use Rattle.std.specs.List.{flat_map}
use Rattle.std.specs.String.{string_bytes}
use Rattle.age_format.specs.declared.format.Stanza.{Stanza as Held-Stanza}
use Rattle.age_format.specs.Stanza.{Stanza, stanza_of, spelling}
use Rattle.age_format.specs.Reading.{NoneDone}
use Rattle.age_format.proofs.Receipts.{StillHeld}
use Rattle.age_core.specs.Connecting.{source_of, held_by}
use Rattle.age_core.specs.Replies.{AreReplies}
use Rattle.age_core.specs.Exchanges.{Exchanged, ReadLittle}
use Rattle.age_core.proofs.plugin.connection.Connection.bidir_receive.Given as goal

-- the stanzas so far have their replies
abbrev pub invariant-loop-handler : goal.invariant-loop-handler
invariant-loop-handler g l =
    let source = g.R.Source in
    let sink = g.W.Sink in
    record {
      replied : (stanzas : List Held-Stanza) × (replies : List Stanza) × NoneDone (map stanza_of stanzas)
          × AreReplies (CalledAt g.F.FnMut) (map string_bytes l.commands) l.fn.handler stanzas replies l.handler
          × Exchanged source.left source.faults sink.got sink.faults sink.plan l.fn.self l.self (map stanza_of stanzas) (flat_map spelling replies);
      little : ReadLittle source.left source.faults sink.got sink.faults sink.plan l.fn.self l.self;
      unread : StillHeld (held_by l.fn.self) (held_by l.self) (source_of l.fn.self) (source_of l.self);
    }

abbrev pub decreases-loop-handler : goal.decreases-loop-handler
decreases-loop-handler g l = length (held_by l.self).bytes + (held_by l.self).budget
