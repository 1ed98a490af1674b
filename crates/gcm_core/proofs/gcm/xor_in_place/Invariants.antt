use Rattle.std.proofs.Common.{◌≡◌, ℕ, ◌<◌, ◌≤◌, slice_index}
use Rattle.std.specs.Prelude.{bit_xor}
use Rattle.gcm_core.proofs.gcm.xor_in_place.Given as goal

-- what is done, and what is still as it was
abbrev pub invariant-loop-i : goal.invariant-loop-i
invariant-loop-i l =
    ((k : ℕ) → k < l.i → slice_index l.text k ≡ bit_xor (slice_index l.fn.text k) (slice_index l.stream k))
    × ((k : ℕ) → l.i ≤ k → slice_index l.text k ≡ slice_index l.fn.text k)
