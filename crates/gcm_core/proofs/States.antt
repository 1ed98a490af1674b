-- A state that a loop filled place by place, and the place of a state's byte.
use Rattle.std.proofs.Common.{◌≡◌, ℕ, ◌+◌, ◌*◌, ◌/◌, ◌%◌, ◌<◌, List, length, slice_index, ap, arith}
use Rattle.std.proofs.lemmas.List.FromFn.{fill_by_all}
use Rattle.gcm_core.specs.Aes.{state_byte, state_of}

-- the byte in row k % 4 + d, turned round, of column k / 4
pub state_byte-turned : (s : List ℕ) (k d j : ℕ) → k < 16 → j ≡ 4 * (k / 4) + (k + d) % 4 → state_byte s (k % 4 + d) (k / 4) ≡ slice_index s j
state_byte-turned s k d j h e = ap (λ (i : ℕ). slice_index s i) (omega arith)

pub state_byte-place : (s : List ℕ) (k : ℕ) → k < 16 → state_byte s (k % 4) (k / 4) ≡ slice_index s k
state_byte-place s k h = ap (λ (i : ℕ). slice_index s i) (omega arith)

pub state_of_filled : (f : ℕ → ℕ → ℕ) (out : List ℕ) → length out ≡ 16 → ((k : ℕ) → k < 16 → slice_index out k ≡ f (k % 4) (k / 4)) → out ≡ state_of f
state_of_filled f out len at = fill_by_all (λ k. f (k % 4) (k / 4)) out 16 0 len at
