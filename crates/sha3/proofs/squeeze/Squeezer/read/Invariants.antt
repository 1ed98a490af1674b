use Rattle.std.proofs.Common.{◌≡◌, ℕ, List, ◌++◌, ◌-◌, ◌+◌, ◌≤◌, length, take}
use Rattle.sha3.specs.Pieces.{Squeezes}
use Rattle.sha3.specs.Sponge.{output}
use Rattle.sha3.proofs.squeeze.Squeezer.read.Given as goal

-- the front is filled so far
abbrev pub invariant-loop-filled : goal.invariant-loop-filled
invariant-loop-filled g l = record {
  within : l.filled ≤ length l.out;
  output : (from : List ℕ) (given : ℕ) → Squeezes g.row.RATE from l.fn.self given
      → output g.row.RATE from (given + l.filled) ≡ output g.row.RATE from given ++ take l.filled l.out;
  given : (from : List ℕ) (given : ℕ) → Squeezes g.row.RATE from l.fn.self given → Squeezes g.row.RATE from l.self (given + l.filled);
}

abbrev pub decreases-loop-filled : goal.decreases-loop-filled
decreases-loop-filled g l = length l.out - l.filled
