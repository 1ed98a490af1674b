-- Blocks that are added to a state.
use Rattle.std.proofs.Common.{◌≡◌, ℕ, ◌*◌, ◌<◌, ◌≤◌, List, length, map, get_or, refl, sym, ap, ◌∙◌, arith, inl, inr}
use Rattle.std.specs.Prelude.{bit_xor}
use Rattle.std.specs.Int.Bits.{xor_zero_r}
use Rattle.std.specs.List.{range_with_len}
use Rattle.std.proofs.lemmas.List.{drop_all, ext_get_or}
use Rattle.std.proofs.lemmas.List.FromFn.{get_or-map-range_with_len, length-map-range_with_len}
use Rattle.std.proofs.lemmas.Bool.{cases_lt}
use Rattle.sha3.specs.Sponge.{added, lane_of}

-- behind its end a block has zeros
lane_of-behind : (block : List ℕ) (k : ℕ) → length block ≤ 8 * k → lane_of block k ≡ 0
lane_of-behind block k behind = rw (drop_all (8 * k) block behind) refl

-- a state whose first q lanes were added, those of the block
pub added-is : (new a block : List ℕ) (q : ℕ) → length new ≡ 25 → length block ≡ 8 * q → length a ≡ 25
    → ((j : ℕ) → j < q → get_or new j 0 ≡ bit_xor (get_or a j 0) (lane_of block j))
    → ((j : ℕ) → q ≤ j → get_or new j 0 ≡ get_or a j 0) → new ≡ added a block
unfolding added
added-is new a block q ln lb la done rest =
    let sum : ℕ → ℕ = λ j. bit_xor (get_or a j 0) (lane_of block j) in
    ext_get_or 0 new (map sum (range_with_len 0 25)) (ln ∙ sym (length-map-range_with_len sum 0 25))
    (λ i lt.
    let at : get_or (map sum (range_with_len 0 25)) i 0 ≡ sum i = get_or-map-range_with_len sum 0 25 i i 0 (omega arith) (omega arith) in
    elim (cases_lt i q) [
      | inl below ↦ done i below ∙ sym at
      | inr above ↦ rest i above ∙ sym (at ∙ ap (bit_xor (get_or a i 0)) (lane_of-behind block i (omega arith)) ∙ xor_zero_r (get_or a i 0))
    ])
