use Rattle.std.proofs.Common.{◌≡◌, ℕ, ◌<◌, ◌≤◌, get_or}
use Rattle.module_lattice.specs.Groups.{reduced_once}
use Rattle.module_lattice.proofs.packing.reduce_once.Given as goal

-- what is done, and what is still as it was
abbrev pub invariant-loop-value : goal.invariant-loop-value
invariant-loop-value g l =
    ((k : ℕ) → k < l.value-index → get_or l.values k 0 ≡ reduced_once g.F.Field.Q (get_or l.fn.values k 0))
    × ((k : ℕ) → l.value-index ≤ k → get_or l.values k 0 ≡ get_or l.fn.values k 0)
