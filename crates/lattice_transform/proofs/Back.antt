-- A layer, undone up to a factor, for any modulus q and any zetas.
use Rattle.std.proofs.Common.{◌≡◌, ℕ, zero, suc, ◌+◌, ◌-◌, ◌*◌, ◌/◌, ◌%◌, ◌<◌, ◌≤◌, List, length, get_or, map, refl, sym, ap, ap₂, subst, ◌∙◌, inl, inr, arith, mul-le-mul_left}
use Rattle.std.specs.List.{range_with_len}
use Rattle.std.proofs.Math.Nat.{add-mul-mod_self_left, div-add-mod, mod-eq_of_lt, mod-lt, mod-mod, mul-add, mul_assoc, mul_comm, mul_left_comm}
use Rattle.std.proofs.lemmas.Bool.{cases_lt}
use Rattle.std.proofs.lemmas.Nat.{mul-mod_second}
use Rattle.module_lattice.specs.Ring.{minus, plus, times}
use Rattle.lattice_transform.specs.Layers.{first_place}
use Rattle.lattice_transform.proofs.Groups.{BackStage, LayerStage, are-apart, group-below}
use Rattle.lattice_transform.proofs.Negation.{minus_one-square, negative}
use Rattle.lattice_transform.proofs.Remainders.{butterfly-of, first-at}
use Rattle.lattice_transform.proofs.Sums.{plus-mod, times-mod}
use Rattle.lattice_transform.proofs.Tables.{from_table}

-- ---- each place is one of a butterfly

block-below : (m t n : ℕ) → m * t ≡ 128 → n < 256 → n / m < 2 * t
block-below m t n whole inside = elim (cases_lt (n / m) (2 * t)) [
  | inl below ↦ below
  | inr above ↦
      let much : m * (2 * t) ≤ m * (n / m) = mul-le-mul_left m above in
      let all : m * (n / m) + n % m ≡ n = div-add-mod n m in
      absurd (omega arith)
]

module _ (m t : ℕ) (positive : 1 ≤ m) (whole : m * t ≡ 128) (P : ℕ → Type 0)
    (firsts : (k : ℕ) → k < 128 → P (first_place m k)) (seconds : (k : ℕ) → k < 128 → P (first_place m k + m)) where
  in-group : (g h r n : ℕ) → g < t → h < 2 → r < m → (2 * g + h) * m + r ≡ n → P n
  in-group g zero r n inside low small is =
      let place : first_place m (g * m + r) ≡ n = first-at m g r small ∙ omega (arith, is) in
      subst P place (firsts (g * m + r) (butterfly-of m t g r whole inside small))
  in-group g (suc zero) r n inside low small is =
      let first : first_place m (g * m + r) ≡ 2 * g * m + r = first-at m g r small in
      let place : first_place m (g * m + r) + m ≡ n = omega (arith, is, first) in
      subst P place (seconds (g * m + r) (butterfly-of m t g r whole inside small))
  in-group g (suc (suc h)) r n inside low small is = absurd (omega arith)

  pub all-places : (n : ℕ) → n < 256 → P n
  all-places n inside =
      let block : n / m < 2 * t = block-below m t n whole inside in
      let half : 2 * (n / m / 2) + n / m % 2 ≡ n / m = div-add-mod (n / m) 2 in
      let is : (2 * (n / m / 2) + n / m % 2) * m + n % m ≡ n = ap (λ (b : ℕ). b * m + n % m) half ∙ ap (λ x. x + n % m) (mul_comm (n / m) m) ∙ div-add-mod n m in
      in-group (n / m / 2) (n / m % 2) (n % m) n (omega arith) (omega arith) (mod-lt n positive) is

-- ---- what one butterfly makes of what another made

collected : (p c x w : ℕ) → c * (x + p * w) + p * (c * (x + w)) ≡ c * (2 * (p * w)) + (p + 1) * (c * x)
collected p c x w = grind arith

regrouped : (p z2 c z y : ℕ) → z2 * (c * (2 * (p * (z * y)))) ≡ z2 * z * p * (2 * c * y)
regrouped p z2 c z y = grind arith

module _ (q : ℕ) (positive_q : 1 ≤ q) where
  -- a + b, where a and b are c times x + zeta·y and x - zeta·y
  sum-undone : (c x z y : ℕ) → plus q (c * plus q x (times q z y) % q) (c * minus q x (times q z y) % q) ≡ 2 * c * x % q
  sum-undone c x z y =
      let u : ℕ = z * y % q in
      let small : u < q = mod-lt (z * y) positive_q in
      let a : ℕ = x + u in
      let b : ℕ = x + (q - u) in
      let both : a + b ≡ 2 * x + q * 1 = omega arith in
      plus-mod q (c * (a % q) % q) (c * a) (c * (b % q) % q) (c * b)
      (mod-mod (c * (a % q)) q ∙ mul-mod_second c a q) (mod-mod (c * (b % q)) q ∙ mul-mod_second c b q)
      ∙ ap (λ n. n % q) (sym (mul-add c a b))
      ∙ times-mod q c c (a + b) (2 * x) refl (ap (λ n. n % q) both ∙ add-mul-mod_self_left (2 * x) q 1)
      ∙ ap (λ n. n % q) (mul_left_comm c 2 x ∙ sym (mul_assoc 2 c x))

  -- x + (q - 1)·w is x - w
  minus-is : (x w : ℕ) → minus q x (w % q) % q ≡ (x + (q - 1) * w) % q
  minus-is x w = mod-mod (x + (q - w % q)) q ∙ plus-mod q x x (q - w % q) ((q - 1) * w) refl (negative q w positive_q)

  -- zeta'·(b - a), where zeta'·zeta is -1
  difference-undone : (c x z z2 y : ℕ) → z2 * z % q ≡ (q - 1)
      → times q z2 (minus q (c * minus q x (times q z y) % q) (c * plus q x (times q z y) % q)) ≡ 2 * c * y % q
  difference-undone c x z z2 y opposite =
      let w : ℕ = z * y in
      let a : ℕ = c * plus q x (times q z y) in
      let b : ℕ = c * minus q x (times q z y) in
      let b_is : b % q ≡ c * (x + (q - 1) * w) % q = times-mod q c c (minus q x (w % q)) (x + (q - 1) * w) refl (minus-is x w) in
      let a_is : a % q ≡ c * (x + w) % q =
      times-mod q c c (plus q x (w % q)) (x + w) refl
      (mod-mod (x + w % q) q ∙ plus-mod q x x (w % q) w refl (mod-mod w q)) in
      let alone : 1 * (2 * c * y) ≡ 2 * c * y = omega arith in
      let whole : (q - 1) + 1 ≡ q = omega arith in
      let below : (q - 1) < q = omega arith in
      let difference : minus q (b % q) (a % q) % q ≡ c * (2 * ((q - 1) * w)) % q =
      minus-is (b % q) a
      ∙ plus-mod q (b % q) (c * (x + (q - 1) * w)) ((q - 1) * a) ((q - 1) * (c * (x + w))) (mod-mod b q ∙ b_is)
      (times-mod q (q - 1) (q - 1) a (c * (x + w)) refl a_is)
      ∙ ap (λ n. n % q) (collected (q - 1) c x w ∙ ap (λ n. c * (2 * ((q - 1) * w)) + n * (c * x)) whole)
      ∙ add-mul-mod_self_left (c * (2 * ((q - 1) * w))) q (c * x) in
      times-mod q z2 z2 (minus q (b % q) (a % q)) (c * (2 * ((q - 1) * w))) refl difference
      ∙ ap (λ n. n % q) (regrouped (q - 1) z2 c z y)
      ∙ times-mod q (z2 * z * (q - 1)) 1 (2 * c * y) (2 * c * y) (times-mod q (z2 * z) (q - 1) (q - 1) (q - 1) (opposite ∙ sym (mod-eq_of_lt below)) refl ∙ minus_one-square q positive_q) refl
      ∙ ap (λ n. n % q) alone

-- ---- a layer

-- w is c·u
pub record IsMultiple (q c : ℕ) (u w : List ℕ) : Type 0 where
  pub size : length w ≡ 256
  pub at : (n : ℕ) → n < 256 → get_or w n 0 ≡ c * get_or u n 0 % q

pub itself : (q : ℕ) (f : List ℕ) → length f ≡ 256 → ((n : ℕ) → n < 256 → get_or f n 0 < q) → IsMultiple q 1 f f
itself q f long below = record {
  size = long;
  at = λ n inside.
      let alone : 1 * get_or f n 0 ≡ get_or f n 0 = omega arith in
      sym (ap (λ y. y % q) alone ∙ mod-eq_of_lt (below n inside));
}

-- the zetas of a layer back are those of the layer, inverted and negated
abbrev pub Opposites : ℕ → (ℕ → ℕ) → ℕ → ℕ → Type 0
Opposites q zeta m t = (g : ℕ) → g < t → zeta (2 * (128 / m) - 1 - g) * zeta (128 / m + g) % q ≡ q - 1

-- by a table
pub opposites-from : (q : ℕ) (zeta : ℕ → ℕ) (m t : ℕ)
    → map (λ g. zeta (2 * (128 / m) - 1 - g) * zeta (128 / m + g) % q) (range_with_len 0 t) ≡ map (λ g. q - 1) (range_with_len 0 t)
    → Opposites q zeta m t
opposites-from q zeta m t same g inside =
    from_table (λ g. zeta (2 * (128 / m) - 1 - g) * zeta (128 / m + g) % q) (λ g. q - 1) 0 t g same (omega arith) (omega arith)

pub layer-undone : (q : ℕ) (zeta : ℕ → ℕ) → 1 ≤ q → (m t c : ℕ) (u v w x : List ℕ) → 1 ≤ m → m * t ≡ 128 → Opposites q zeta m t
    → LayerStage q zeta m u 128 v → IsMultiple q c v w → BackStage q zeta m w 128 x → IsMultiple q (2 * c) u x
layer-undone q zeta positive_q m t c u v w x positive whole opposite made is undone =
    let a : ℕ → ℕ = λ k. get_or u (first_place m k) 0 in
    let b : ℕ → ℕ = λ k. get_or u (first_place m k + m) 0 in
    let z : ℕ → ℕ = λ k. zeta (128 / m + k / m) in
    let first : (k : ℕ) → k < 128 → get_or w (first_place m k) 0 ≡ c * plus q (a k) (times q (z k) (b k)) % q = λ k inside.
    is.at (first_place m k) ((are-apart m t positive whole).first_inside k inside) ∙ ap (λ n. c * n % q) (made.first_done k inside inside) in
    let second : (k : ℕ) → k < 128 → get_or w (first_place m k + m) 0 ≡ c * minus q (a k) (times q (z k) (b k)) % q = λ k inside.
    is.at (first_place m k + m) ((are-apart m t positive whole).second_inside k inside) ∙ ap (λ n. c * n % q) (made.second_done k inside inside) in
    record {
      size = undone.size;
      at = all-places m t positive whole (λ n. get_or x n 0 ≡ 2 * c * get_or u n 0 % q)
          (λ k inside.
          undone.first_done k inside inside ∙ ap₂ (plus q) (first k inside) (second k inside) ∙ sum-undone q positive_q c (a k) (z k) (b k))
          (λ k inside.
          undone.second_done k inside inside
          ∙ ap₂ (λ a b. times q (zeta (2 * (128 / m) - 1 - k / m)) (minus q b a)) (first k inside) (second k inside)
          ∙ difference-undone q positive_q c (a k) (z k) (zeta (2 * (128 / m) - 1 - k / m)) (b k) (opposite (k / m) (group-below m t k positive whole inside)));
    }
