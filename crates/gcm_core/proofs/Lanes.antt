-- Lists of bytes in the lanes of a vector: each operation as a map over the lanes.
use Rattle.std.proofs.Common.{◌≡◌, ℕ, suc, ◌+◌, ◌*◌, ◌/◌, ◌<◌, ◌≤◌, true, false, T, List, [], ◌∷◌, map, length, get_or, replicate, refl, sym, ap, ◌∙◌, arith, w8, Fits, IsTrue, cond, inl, inr}
use Rattle.std.specs.Prelude.{nat_le, nat_lt}
use Rattle.std.specs.List.{range_with_len}
use Rattle.std.proofs.lemmas.Bool.{cases_lt}
use Rattle.std.proofs.lemmas.Bool.Decides.{nat_tests}
use Rattle.std.proofs.lemmas.List.FromFn.{get_or-map-range_with_len}
use Rattle.std.proofs.lemmas.Simd.{Each1-weaker, SwzOk, SwzOk-from_Each1, below_from_Fits, map-map, splat_is_map, swz_l, zip2_of_maps}
use lib.Lanes.{Each1, zip2}
use Rattle.gcm_core.specs.private.Nibbles.{entry_of, is_place}

-- the bytes of a block in lanes
abbrev pub IsLanes : List ℕ → Type 0
IsLanes s = (length s ≡ 16) × Each1 (Fits w8) s

-- a look-up is the entry of each place
entry-cond : (table : List ℕ) (j : ℕ) → cond (nat_le 128 j) 0 (get_or table j 0) ≡ entry_of table j
entry-cond table j = elim (cases_lt j 128) [ inl h ↦ rw (leb-below 128 j h, ltb-below j 128 h) refl | inr h ↦ rw (leb-above 128 j h, ltb-above j 128 h) refl ]
  where
    leb-below : (a b : ℕ) → b < a → nat_le a b ≡ false
    leb-below a b h = grind (arith, nat_tests)

    leb-above : (a b : ℕ) → a ≤ b → nat_le a b ≡ true
    leb-above a b h = grind (arith, nat_tests)

    ltb-below : (a b : ℕ) → a < b → nat_lt a b ≡ true
    ltb-below a b h = grind (arith, nat_tests)

    ltb-above : (a b : ℕ) → b ≤ a → nat_lt a b ≡ false
    ltb-above a b h = grind (arith, nat_tests)

pub swz_l-map : (table : List ℕ) (i : ℕ) (js : List ℕ) → i + length js ≤ 16 → swz_l w8 16 table i js ≡ map (entry_of table) js
swz_l-map table i [] h = refl
swz_l-map table i (j ∷ js) h =
    let at : 16 * (i / 16) + j ≡ j = omega arith in
    rw (at, swz_l-map table (suc i) js (omega arith)) (ap (λ x. x ∷ map (entry_of table) js) (entry-cond table j))

pub places-ok : (js : List ℕ) → length js ≡ 16 → Each1 (λ place. IsTrue (is_place place)) js → SwzOk w8 16 16 0 js
places-ok js len ok = SwzOk-from_Each1 w8 16 1 16 0 js refl (omega arith) (Each1-weaker (λ place. IsTrue (is_place place)) (λ j. T (is_place j)) (λ j h. rw h tt) js ok)

-- what holds of each byte, by computing it
pub at_each_byte : {A : Type 0} (f g : ℕ → A) → map f (range_with_len 0 256) ≡ map g (range_with_len 0 256) → (x : ℕ) → x < 256 → f x ≡ g x
at_each_byte f g same x h =
    sym (get_or-map-range_with_len f 0 256 x x (f x) h (omega arith)) ∙ ap (λ l. get_or l x (f x)) same ∙ get_or-map-range_with_len g 0 256 x x (f x) h (omega arith)

-- two functions that agree on bytes agree on lanes
pub map-bytes : {A : Type 0} (f g : ℕ → A) → ((x : ℕ) → x < 256 → f x ≡ g x) → (s : List ℕ) → Each1 (λ x. x < 256) s → map f s ≡ map g s
map-bytes f g same [] h = refl
map-bytes f g same (x ∷ s) h = rw (same x h.0, map-bytes f g same s h.1) refl

-- the places that a function gives on lanes
pub places : (g : ℕ → ℕ) (s js : List ℕ) → IsLanes s → js ≡ map g s → map (λ x. is_place (g x)) (range_with_len 0 256) ≡ map (λ x. true) (range_with_len 0 256) → Each1 (λ place. IsTrue (is_place place)) js
places g s js fits e ok = rw e (each s (below_from_Fits w8 s fits.1))
  where
    each : (t : List ℕ) → Each1 (λ x. x < 256) t → Each1 (λ place. IsTrue (is_place place)) (map g t)
    each [] h = tt
    each (x ∷ t) h = (at_each_byte (λ x. is_place (g x)) (λ x. true) ok x h.0, each t h.1)

-- a look-up at places that are computed lane by lane
pub looked : (table : List ℕ) (g : ℕ → ℕ) (s js out : List ℕ) → out ≡ map (entry_of table) js → js ≡ map g s → out ≡ map (λ x. entry_of table (g x)) s
looked table g s js out e places = e ∙ ap (map (entry_of table)) places ∙ map-map (entry_of table) g s

-- an operator with the same number in each lane
pub with_splat : (f : ℕ → ℕ → ℕ) (g : ℕ → ℕ) (y : ℕ) (s xs : List ℕ) → IsLanes s → xs ≡ map g s → zip2 f xs (replicate 16 y) ≡ map (λ x. f (g x) y) s
with_splat f g y s xs fits e = zip2_of_maps f g (λ _. y) s e (splat_is_map s 16 y fits.0)
