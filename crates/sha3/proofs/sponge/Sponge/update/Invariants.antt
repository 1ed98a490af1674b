use Rattle.std.proofs.Common.{ℕ, List, ◌++◌, ◌-◌, ◌≤◌, length, take}
use Rattle.sha3.specs.Pieces.{Absorbs}
use Rattle.sha3.proofs.sponge.Sponge.update.Given as goal

-- the piece is taken in so far
abbrev pub invariant-loop-start : goal.invariant-loop-start
invariant-loop-start g l = record {
  within : l.start ≤ length l.piece;
  taken : (m : List ℕ) → Absorbs g.row.RATE l.fn.self m → Absorbs g.row.RATE l.self (m ++ take l.start l.piece);
}

abbrev pub decreases-loop-start : goal.decreases-loop-start
decreases-loop-start g l = length l.piece - l.start
