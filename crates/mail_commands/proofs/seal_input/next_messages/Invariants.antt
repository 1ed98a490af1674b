use Rattle.std.proofs.Common.{◌≡◌, ◌≤◌, ◌*◌, ◌-◌, length, map}
use Rattle.std.specs.Prelude.{All}
use Rattle.kem_mail.specs.Taken.{Lost}
use Rattle.mail_commands.specs.Input.{IsMessageLines}
use Rattle.mail_commands.proofs.seal_input.next_messages.Given as goal

-- the lines so far were taken, and no more
abbrev pub invariant-loop-alloc : goal.invariant-loop-alloc
invariant-loop-alloc g l = record {
  taken : Lost (g.S.Source.left l.fn.src) (g.S.Source.left l.src) (λ bytes. IsMessageLines bytes (map (λ m. m.items) l.messages.items) × (length bytes ≡ l.count));
  each : All (λ message. length message ≤ 32768) (map (λ m. m.items) l.messages.items);
  few : length l.messages.items ≤ 4096;
  short : l.count ≤ 65537 * length l.messages.items;
  no_fault : g.S.Source.faults l.src ≡ g.S.Source.faults l.fn.src;
}

abbrev pub decreases-loop-alloc : goal.decreases-loop-alloc
decreases-loop-alloc g l = 4096 - length l.messages.items
