-- Sums of the coefficients of a product modulo q, each with a weight.
use Rattle.std.proofs.Common.{◌≡◌, ℕ, ◌+◌, ◌-◌, ◌*◌, ◌%◌, ◌<◌, ◌≤◌, List, get_or, refl, sym, ap, ap₂, ◌∙◌, arith}
use Rattle.std.specs.Prelude.{nat_lt, if◌then◌else◌}
use Rattle.std.proofs.Math.Nat.{add-mul, mod-mod, mul_assoc, mul_comm}
use Rattle.std.proofs.lemmas.Bool.Decides.{nat_tests}
use Rattle.module_lattice.specs.Ring.{product_coefficient}
use Rattle.lattice_transform.proofs.Negation.{negative}
use Rattle.lattice_transform.proofs.Sums.{over, over-mod, over-same, over-shift, over-split, over-swap, over-times, plus-mod, times-mod}

pub over-times_last : (a n c : ℕ) (f : ℕ → ℕ) → over a n (λ k. f k * c) ≡ over a n f * c
over-times_last a n c f =
    over-same a n (λ k. f k * c) (λ k. c * f k) (λ k low high. mul_comm (f k) c) ∙ over-times a n c f ∙ mul_comm c (over a n f)

swapped : (a b : ℕ) → a + b ≡ b + a
swapped a b = omega arith

spread : (a b c w : ℕ) → (a + c * b) * w ≡ a * w + b * (c * w)
spread a b c w = add-mul a (c * b) w ∙ ap (λ x. a * w + x) (ap (λ x. x * w) (mul_comm c b) ∙ mul_assoc b c w)

module _ (q : ℕ) (positive : 1 ≤ q) (f g : List ℕ) (w : ℕ → ℕ) where
  below : ℕ → ℕ
  below k = over 0 (k + 1) (λ i. get_or f i 0 * get_or g (k - i) 0)

  wrapped : ℕ → ℕ
  wrapped k = over (k + 1) (255 - k) (λ i. get_or f i 0 * get_or g (256 + k - i) 0)

  -- what coefficient k takes from number i of f
  share : ℕ → ℕ → ℕ
  share k i = if nat_lt k i then get_or g (256 + k - i) 0 * w (k + 256) else get_or g (k - i) 0 * w k

  share-wrapped : (k i : ℕ) → k < i → share k i ≡ get_or g (256 + k - i) 0 * w (k + 256)
  unfolding share
  share-wrapped k i lt = grind (arith, nat_tests)

  share-below : (k i : ℕ) → i ≤ k → share k i ≡ get_or g (k - i) 0 * w k
  unfolding share
  share-below k i le = grind (arith, nat_tests)

  coefficient-mod : (k : ℕ) → product_coefficient q f g k % q ≡ (below k + (q - 1) * wrapped k) % q
  unfolding below wrapped
  coefficient-mod k =
      mod-mod (below k % q + (q - wrapped k % q)) q
      ∙ plus-mod q (below k % q) (below k) (q - wrapped k % q) ((q - 1) * wrapped k) (mod-mod (below k) q) (negative q (wrapped k) positive)

  shares : (k : ℕ) → k < 256 → below k * w k + wrapped k * w (k + 256) ≡ over 0 256 (λ i. get_or f i 0 * share k i)
  unfolding below wrapped
  shares k inside =
      let start : 0 + (k + 1) ≡ k + 1 = omega arith in
      let whole : k + 1 + (255 - k) ≡ 256 = omega arith in
      ap₂ (λ x y. x + y)
      (sym (over-times_last 0 (k + 1) (w k) (λ i. get_or f i 0 * get_or g (k - i) 0))
      ∙ over-same 0 (k + 1) (λ i. get_or f i 0 * get_or g (k - i) 0 * w k) (λ i. get_or f i 0 * share k i)
      (λ i low high. mul_assoc (get_or f i 0) (get_or g (k - i) 0) (w k) ∙ ap (λ x. get_or f i 0 * x) (sym (share-below k i (omega arith)))))
      (sym (over-times_last (k + 1) (255 - k) (w (k + 256)) (λ i. get_or f i 0 * get_or g (256 + k - i) 0))
      ∙ over-same (k + 1) (255 - k) (λ i. get_or f i 0 * get_or g (256 + k - i) 0 * w (k + 256)) (λ i. get_or f i 0 * share k i)
      (λ i low high. mul_assoc (get_or f i 0) (get_or g (256 + k - i) 0) (w (k + 256)) ∙ ap (λ x. get_or f i 0 * x) (sym (share-wrapped k i (omega arith))))
      ∙ ap (λ (a : ℕ). over a (255 - k) (λ i. get_or f i 0 * share k i)) (sym start))
      ∙ sym (over-split 0 (k + 1) (255 - k) (λ i. get_or f i 0 * share k i))
      ∙ ap (λ (n : ℕ). over 0 n (λ i. get_or f i 0 * share k i)) whole

  -- all that number i of f gives
  given : (i : ℕ) → i < 256 → over 0 256 (λ k. share k i) ≡ over 0 256 (λ j. get_or g j 0 * w (i + j))
  given i inside =
      let whole : i + (256 - i) ≡ 256 = omega arith in
      let turned : 256 - i + i ≡ 256 = omega arith in
      let start : 0 + i ≡ i = omega arith in
      let start2 : 0 + (256 - i) ≡ 256 - i = omega arith in
      let target : ℕ → ℕ = λ j. get_or g j 0 * w (i + j) in
      let low_part : over 0 i (λ k. share k i) ≡ over (256 - i) i target =
      over-same 0 i (λ k. share k i) (λ k. target (k + (256 - i)))
      (λ k low high.
      let place : 256 + k - i ≡ k + (256 - i) = omega arith in
      let power : k + 256 ≡ i + (k + (256 - i)) = omega arith in
      share-wrapped k i (omega arith) ∙ ap₂ (λ a b. get_or g a 0 * w b) place power)
      ∙ sym (over-shift 0 i (256 - i) target) ∙ ap (λ (a : ℕ). over a i target) start2 in
      let high_part : over i (256 - i) (λ k. share k i) ≡ over 0 (256 - i) target =
      ap (λ (a : ℕ). over a (256 - i) (λ k. share k i)) (sym start)
      ∙ over-shift 0 (256 - i) i (λ k. share k i)
      ∙ over-same 0 (256 - i) (λ k. share (k + i) i) target
      (λ k low high.
      let place : k + i - i ≡ k = omega arith in
      let power : k + i ≡ i + k = omega arith in
      share-below (k + i) i (omega arith) ∙ ap₂ (λ a b. get_or g a 0 * w b) place power) in
      let first : over 0 256 (λ k. share k i) ≡ over 0 i (λ k. share k i) + over i (256 - i) (λ k. share k i) =
      ap (λ (n : ℕ). over 0 n (λ k. share k i)) (sym whole) ∙ over-split 0 i (256 - i) (λ k. share k i)
      ∙ ap (λ (a : ℕ). over 0 i (λ k. share k i) + over a (256 - i) (λ k. share k i)) start in
      let second : over 0 256 target ≡ over 0 (256 - i) target + over (256 - i) i target =
      ap (λ (n : ℕ). over 0 n target) (sym turned) ∙ over-split 0 (256 - i) i target
      ∙ ap (λ (a : ℕ). over 0 (256 - i) target + over a i target) start2 in
      first ∙ ap₂ (λ x y. x + y) low_part high_part ∙ swapped (over (256 - i) i target) (over 0 (256 - i) target) ∙ sym second

  -- the coefficients of f·g, where the weight at k + 256 is minus that at k
  pub product-weighed : ((k : ℕ) → k < 256 → w (k + 256) % q ≡ (q - 1) * w k % q)
      → over 0 256 (λ k. product_coefficient q f g k * w k) % q
      ≡ over 0 256 (λ i. get_or f i 0 * over 0 256 (λ j. get_or g j 0 * w (i + j))) % q
  product-weighed turns =
      over-mod q 0 256 (λ k. product_coefficient q f g k * w k) (λ k. over 0 256 (λ i. get_or f i 0 * share k i))
      (λ k low high.
      let inside : k < 256 = omega arith in
      times-mod q (product_coefficient q f g k) (below k + (q - 1) * wrapped k) (w k) (w k) (coefficient-mod k) refl
      ∙ ap (λ x. x % q) (spread (below k) (wrapped k) (q - 1) (w k))
      ∙ plus-mod q (below k * w k) (below k * w k) (wrapped k * ((q - 1) * w k)) (wrapped k * w (k + 256)) refl
      (times-mod q (wrapped k) (wrapped k) ((q - 1) * w k) (w (k + 256)) refl (sym (turns k inside)))
      ∙ ap (λ x. x % q) (shares k inside))
      ∙ ap (λ x. x % q)
      (over-swap 0 256 0 256 (λ k i. get_or f i 0 * share k i)
      ∙ over-same 0 256 (λ i. over 0 256 (λ k. get_or f i 0 * share k i)) (λ i. get_or f i 0 * over 0 256 (λ j. get_or g j 0 * w (i + j)))
      (λ i low high. over-times 0 256 (get_or f i 0) (λ k. share k i) ∙ ap (λ x. get_or f i 0 * x) (given i (omega arith))))
