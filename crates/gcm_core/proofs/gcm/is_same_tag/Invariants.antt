use Rattle.std.proofs.Common.{◌↔◌, ℕ, ◌<◌, ◌≡◌, IsTrue, slice_index}
use Rattle.gcm_core.proofs.gcm.is_same_tag.Given as goal

abbrev pub invariant-loop-i : goal.invariant-loop-i
invariant-loop-i l =
    IsTrue l.same ↔ ((k : ℕ) → k < l.i → slice_index l.a k ≡ slice_index l.b k)
