use Rattle.std.proofs.Common.{◌≡◌, ◌≤◌, ◌+◌, ◌-◌, length}
use Rattle.std.specs.List.{AllPass}
use Rattle.hex.specs.Hex.{is_hex_digit}
use Rattle.kem_mail.specs.Taken.{Lost}
use Rattle.mail_commands.proofs.input.line_or_end.Given as goal

-- the digits so far were taken, and no more
abbrev pub invariant-loop-byte : goal.invariant-loop-byte
invariant-loop-byte g l = record {
  taken : Lost (g.S.Source.left l.fn.src) (g.S.Source.left l.src) (λ bytes. bytes ≡ l.digits.items);
  all : AllPass is_hex_digit l.digits.items;
  within : length l.digits.items ≤ l.most;
  no_fault : g.S.Source.faults l.src ≡ g.S.Source.faults l.fn.src;
}

abbrev pub decreases-loop-byte : goal.decreases-loop-byte
decreases-loop-byte g l = l.most + 1 - length l.digits.items
