use Rattle.std.proofs.Common.{◌≡◌, ◌≤◌, ◌*◌, length, take}
use Rattle.std.specs.Prelude.{sum_by}
use Rattle.generated_mail.proofs.summary.total_len.Given as goal

-- the sum so far
abbrev pub invariant-loop-i : goal.invariant-loop-i
invariant-loop-i l = record {
  sum : l.total ≡ sum_by length (take l.i l.messages);
  within : l.total ≤ l.i * 18446744073709551616;
}
