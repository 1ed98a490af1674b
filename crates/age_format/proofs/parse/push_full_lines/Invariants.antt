use Rattle.std.proofs.Common.{◌≡◌, [], length}
use Rattle.age_format.specs.Stanza.{IsBytes}
use Rattle.age_format.specs.private.Parse.{lines_from}
use Rattle.age_format.proofs.parse.push_full_lines.Given as goal

-- the body so far and what is left give what the body and the text gave
abbrev pub invariant-loop-rest : goal.invariant-loop-rest
invariant-loop-rest l = record {
  bytes : IsBytes l.rest;
  same : lines_from l.engine l.body.items [] l.rest ≡ lines_from l.engine l.fn.body.items [] l.text;
}

abbrev pub decreases-loop-rest : goal.decreases-loop-rest
decreases-loop-rest l = length l.rest
