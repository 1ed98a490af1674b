use Rattle.std.proofs.Common.{◌≡◌, ◌+◌, ◌-◌, ◌≤◌, [], take, drop}
use Rattle.age_format.specs.private.Parse.{lines_from}
use Rattle.age_format.proofs.parse.body_at.Given as goal

-- the body so far, the line so far and what is left give what the text gives
abbrev pub invariant-loop-i : goal.invariant-loop-i
invariant-loop-i l = record {
  order : l.start ≤ l.i;
  within : l.i ≤ l.start + 64;
  same : lines_from l.engine l.body.items (take (l.i - l.start) (drop l.start l.last)) (drop l.i l.last) ≡ lines_from l.engine [] [] l.text;
}
