use Rattle.std.proofs.Common.{◌≡◌, ◌+◌, List, length, map}
use Rattle.std.specs.Option.{option_copied}
use Rattle.age_format.specs.declared.format.Stanza.{Stanza}
use Rattle.age_format.specs.Stanza.{stanza_of}
use Rattle.age_format.specs.Reading.{NoneDone}
use Rattle.age_format.specs.Receiving.{Receives}
use Rattle.age_core.specs.Connecting.{source_of, sink_of, held_by}
use Rattle.age_core.specs.Phases.{Commands, for_a, for_b, for_c, for_d, Ran}
use Rattle.age_format.proofs.Receipts.{Little, StillHeld}
use Rattle.age_core.proofs.plugin.connection.Connection.unidir_receive.Given as goal

-- the stanzas so far went to the commands, and none of them was a `done`
abbrev pub invariant-loop-running : goal.invariant-loop-running
invariant-loop-running g l =
    let left = g.R.Source.left in
    let tags : Commands = record { a = l.command_a; b = l.command_b; c = option_copied l.command_c; d = option_copied l.command_d } in
    record {
      taken : (stanzas : List Stanza) × NoneDone (map stanza_of stanzas)
          × Receives (held_by l.fn.self) (held_by l.self) (left (source_of l.fn.self)) (left (source_of l.self)) (map stanza_of stanzas)
          × Ran (goal.F-step g) l.fn.on_a (for_a tags stanzas) l.running.a l.running.on_a
          × Ran (goal.G-step g) l.fn.on_b (for_b tags stanzas) l.running.b l.running.on_b
          × Ran (goal.H-step g) l.fn.on_c (for_c tags stanzas) l.running.c l.running.on_c
          × Ran (goal.I-step g) l.fn.on_d (for_d tags stanzas) l.running.d l.running.on_d;
      behind : Little (held_by l.fn.self) (held_by l.self) (source_of l.fn.self) (source_of l.self);
      unread : StillHeld (held_by l.fn.self) (held_by l.self) (source_of l.fn.self) (source_of l.self);
      no_fault : g.R.Source.faults (source_of l.self) ≡ g.R.Source.faults (source_of l.fn.self);
      sink : sink_of l.self ≡ sink_of l.fn.self;
    }

abbrev pub decreases-loop-running : goal.decreases-loop-running
decreases-loop-running g l = length (held_by l.self).bytes + (held_by l.self).budget
