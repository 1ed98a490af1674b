use Rattle.std.proofs.Common.{List, length, ◌+◌, map}
use Rattle.std.specs.String.{string_bytes}
use Rattle.age_format.specs.Stanza.{Stanza}
use Rattle.age_core.specs.Connecting.{source_of, held_by}
use Rattle.age_core.specs.Replies.{ArePassedOver, unsupported_text}
use Rattle.age_core.specs.Exchanges.{Exchanged, ReadLittle}
use Rattle.age_core.proofs.Passing.{StillNext}
use Rattle.age_core.proofs.plugin.connection.Connection.pass_over.Given as goal

-- the stanzas so far were passed over, and each was answered
abbrev pub invariant-loop-stanza : goal.invariant-loop-stanza
invariant-loop-stanza g l =
    let source = g.R.Source in
    let sink = g.W.Sink in
    let tags = map string_bytes l.commands in
    record {
      passed : (stanzas : List Stanza) × ArePassedOver tags stanzas × Exchanged source.left source.faults sink.got sink.faults sink.plan l.fn.self l.self stanzas (unsupported_text stanzas);
      little : ReadLittle source.left source.faults sink.got sink.faults sink.plan l.fn.self l.self;
      unread : StillNext tags (held_by l.fn.self) (held_by l.self) (source_of l.fn.self) (source_of l.self);
    }

abbrev pub decreases-loop-stanza : goal.decreases-loop-stanza
decreases-loop-stanza g l = length (held_by l.self).bytes + (held_by l.self).budget
