use Rattle.age_legacy.proofs.Runs.{RunsTo}
use Rattle.age_legacy.proofs.body.run_len.Given as goal

-- the bytes so far are of the run
abbrev pub invariant-loop-i : goal.invariant-loop-i
invariant-loop-i l = RunsTo l.text l.i
