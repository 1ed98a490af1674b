-- A layer takes remainders modulo X^(2·m) - Z to remainders modulo X^m - z and X^m + z, where z^2 is Z,
-- for any modulus q and any zetas.
use Rattle.std.proofs.Common.{◌≡◌, ℕ, zero, suc, ◌+◌, ◌-◌, ◌*◌, ◌/◌, ◌%◌, ◌^◌, ◌<◌, ◌≤◌, List, length, get_or, map, refl, sym, ap, ap₂, ◌∙◌, arith, mul-le-mul_left}
use Rattle.std.specs.List.{range_with_len}
use Rattle.std.proofs.Math.Nat.{div-add-mod, mod-eq_of_lt, mod-mod, mul_assoc, mul_comm, mul_left_comm, pow-zero}
use Rattle.std.proofs.lemmas.Nat.{div-mul-add, mod-mul-add, mul-mod_second, mul-pow, pow-add}
use Rattle.module_lattice.specs.Ring.{IsPolynomial, minus, plus, times}
use Rattle.lattice_transform.specs.Layers.{first_place}
use Rattle.lattice_transform.proofs.Groups.{LayerStage, first-is}
use Rattle.lattice_transform.proofs.Negation.{minus_one-square, negative}
use Rattle.lattice_transform.proofs.Powers.{pow-one, pow-pow, power-mod}
use Rattle.lattice_transform.proofs.Sums.{over, over-mod, over-pairs, over-plus, over-suc, over-times, plus-mod, times-mod}
use Rattle.lattice_transform.proofs.Tables.{from_table}

-- n blocks of m numbers each: block b is f modulo X^m - Z b
pub record AreRemainders (q m n : ℕ) (root : ℕ → ℕ) (f v : List ℕ) : Type 0 where
  pub at : (b r : ℕ) → b < n → r < m → get_or v (b * m + r) 0 ≡ over 0 n (λ s. get_or f (r + s * m) 0 * root b ^ s) % q

-- the roots of the two halves of group g in the layer whose half-length is m
abbrev pub side : ℕ → (ℕ → ℕ) → ℕ → ℕ → ℕ → ℕ
side q zeta m g zero = zeta (128 / m + g)
side q zeta m g (suc h) = q - zeta (128 / m + g)

abbrev pub root_of : ℕ → (ℕ → ℕ) → ℕ → ℕ → ℕ
root_of q zeta m b = side q zeta m (b / 2) (b % 2)

-- the zetas of a layer are square roots
abbrev pub Squares : ℕ → (ℕ → ℕ) → ℕ → ℕ → (ℕ → ℕ) → Type 0
Squares q zeta m t root = (g s : ℕ) → g < t → s < t → (zeta (128 / m + g) ^ 2) ^ s % q ≡ root g ^ s % q

pub butterfly-of : (m t g r : ℕ) → m * t ≡ 128 → g < t → r < m → g * m + r < 128
butterfly-of m t g r whole inside small = let much : m * suc g ≤ m * t = mul-le-mul_left m inside in omega arith

-- the places of butterfly g·m + r
pub first-at : (m g r : ℕ) → r < m → first_place m (g * m + r) ≡ 2 * g * m + r
first-at m g r small = first-is m (g * m + r) ∙ ap₂ (λ (a b : ℕ). 2 * a * m + b) (div-mul-add g m r small) (mod-mul-add g m r small)

-- the remainder modulo X^(2·m) - root, from place r on
abbrev part : List ℕ → ℕ → ℕ → ℕ → ℕ → ℕ
part f m t r root = over 0 t (λ s. get_or f (r + s * (2 * m)) 0 * root ^ s)

module _ (q : ℕ) where
  -- ---- a sum by its even and its odd terms

  even-term : (f : List ℕ) (m r s z root : ℕ) → (z ^ 2) ^ s % q ≡ root ^ s % q
      → get_or f (r + 2 * s * m) 0 * z ^ (2 * s) % q ≡ get_or f (r + s * (2 * m)) 0 * root ^ s % q
  even-term f m r s z root square =
      let place : r + 2 * s * m ≡ r + s * (2 * m) = omega arith in
      times-mod q (get_or f (r + 2 * s * m) 0) (get_or f (r + s * (2 * m)) 0) (z ^ (2 * s)) (root ^ s)
      (ap (λ (k : ℕ). get_or f k 0 % q) place) (ap (λ x. x % q) (sym (pow-pow z 2 s)) ∙ square)

  odd-term : (f : List ℕ) (m r s z root : ℕ) → (z ^ 2) ^ s % q ≡ root ^ s % q
      → get_or f (r + (2 * s + 1) * m) 0 * z ^ (2 * s + 1) % q ≡ z * (get_or f (m + r + s * (2 * m)) 0 * root ^ s) % q
  odd-term f m r s z root square =
      let place : r + (2 * s + 1) * m ≡ m + r + s * (2 * m) = omega arith in
      let power : z ^ (2 * s + 1) ≡ z * (z ^ 2) ^ s = pow-add z (2 * s) 1 ∙ ap₂ (λ x y. x * y) (sym (pow-pow z 2 s)) (pow-one z) ∙ mul_comm ((z ^ 2) ^ s) z in
      times-mod q (get_or f (r + (2 * s + 1) * m) 0) (get_or f (m + r + s * (2 * m)) 0) (z ^ (2 * s + 1)) (z * root ^ s)
      (ap (λ (k : ℕ). get_or f k 0 % q) place)
      (ap (λ x. x % q) power ∙ times-mod q z z ((z ^ 2) ^ s) (root ^ s) refl square)
      ∙ ap (λ x. x % q) (mul_left_comm (get_or f (m + r + s * (2 * m)) 0) z (root ^ s))

  halves : (f : List ℕ) (m t r z root : ℕ) → ((s : ℕ) → s < t → (z ^ 2) ^ s % q ≡ root ^ s % q)
      → over 0 (2 * t) (λ s. get_or f (r + s * m) 0 * z ^ s) % q ≡ (part f m t r root + z * part f m t (m + r) root) % q
  halves f m t r z root square =
      ap (λ x. x % q) (over-pairs 0 t (λ s. get_or f (r + s * m) 0 * z ^ s))
      ∙ over-mod q 0 t (λ s. get_or f (r + 2 * s * m) 0 * z ^ (2 * s) + get_or f (r + (2 * s + 1) * m) 0 * z ^ (2 * s + 1))
      (λ s. get_or f (r + s * (2 * m)) 0 * root ^ s + z * (get_or f (m + r + s * (2 * m)) 0 * root ^ s))
      (λ s low high.
      let inside : s < t = omega arith in
      plus-mod q (get_or f (r + 2 * s * m) 0 * z ^ (2 * s)) (get_or f (r + s * (2 * m)) 0 * root ^ s)
      (get_or f (r + (2 * s + 1) * m) 0 * z ^ (2 * s + 1)) (z * (get_or f (m + r + s * (2 * m)) 0 * root ^ s))
      (even-term f m r s z root (square s inside)) (odd-term f m r s z root (square s inside)))
      ∙ ap (λ x. x % q)
      (over-plus 0 t (λ s. get_or f (r + s * (2 * m)) 0 * root ^ s) (λ s. z * (get_or f (m + r + s * (2 * m)) 0 * root ^ s))
      ∙ ap (λ x. part f m t r root + x) (over-times 0 t z (λ s. get_or f (m + r + s * (2 * m)) 0 * root ^ s)))

  plus-parts : (z a b : ℕ) → plus q (a % q) (times q z (b % q)) ≡ (a + z * b) % q
  plus-parts z a b =
      plus-mod q (a % q) a (z * (b % q) % q) (z * b) (mod-mod a q) (mod-mod (z * (b % q)) q ∙ mul-mod_second z b q)

two-pow : (a : ℕ) → a ^ 2 ≡ a * a
two-pow a = pow-add a 1 1 ∙ ap₂ (λ x y. x * y) (pow-one a) (pow-one a)

module _ (q : ℕ) (positive_q : 1 ≤ q) (zeta : ℕ → ℕ) (reduced : (k : ℕ) → zeta k % q ≡ zeta k) where
  -- ---- one layer

  opposite : (k : ℕ) → (q - zeta k) % q ≡ (q - 1) * zeta k % q
  opposite k = ap (λ x. (q - x) % q) (sym (reduced k)) ∙ negative q (zeta k) positive_q

  -- both have one square
  opposite-square : (k : ℕ) → (q - zeta k) ^ 2 % q ≡ zeta k ^ 2 % q
  opposite-square k =
      let alone : 1 * zeta k ^ 2 ≡ zeta k ^ 2 = omega arith in
      let square : (q - 1) ^ 2 % q ≡ 1 % q = ap (λ x. x % q) (two-pow (q - 1)) ∙ minus_one-square q positive_q in
      power-mod q (q - zeta k) ((q - 1) * zeta k) 2 (opposite k)
      ∙ ap (λ x. x % q) (mul-pow (q - 1) (zeta k) 2)
      ∙ times-mod q ((q - 1) ^ 2) 1 (zeta k ^ 2) (zeta k ^ 2) square refl
      ∙ ap (λ x. x % q) alone

  minus-parts : (k a b : ℕ) → minus q (a % q) (times q (zeta k) (b % q)) ≡ (a + (q - zeta k) * b) % q
  minus-parts k a b =
      let z : ℕ = zeta k in
      let y : ℕ = z * (b % q) in
      plus-mod q (a % q) a (q - y % q) ((q - z) * b) (mod-mod a q)
      (negative q y positive_q
      ∙ ap (λ x. x % q) (sym (mul_assoc (q - 1) z (b % q)))
      ∙ times-mod q ((q - 1) * z) (q - z) (b % q) b (sym (opposite k)) (mod-mod b q))

  first-number : (m t g r : ℕ) (root : ℕ → ℕ) (f v w : List ℕ) → m * t ≡ 128 → LayerStage q zeta m v 128 w → Squares q zeta m t root → AreRemainders q (2 * m) t root f v
      → g < t → r < m → get_or w (2 * g * m + r) 0 ≡ over 0 (2 * t) (λ s. get_or f (r + s * m) 0 * zeta (128 / m + g) ^ s) % q
  first-number m t g r root f v w whole stage squares before inside small =
      let k : ℕ = g * m + r in
      let k_inside : k < 128 = butterfly-of m t g r whole inside small in
      let group : k / m ≡ g = div-mul-add g m r small in
      let first : first_place m k ≡ g * (2 * m) + r = first-at m g r small ∙ omega arith in
      let second : first_place m k + m ≡ g * (2 * m) + (m + r) = omega (arith, first) in
      ap (λ (p : ℕ). get_or w p 0) (sym (first-at m g r small))
      ∙ stage.first_done k k_inside k_inside
      ∙ ap₂ (plus q)
      (ap (λ (p : ℕ). get_or v p 0) first ∙ before.at g r inside (omega arith))
      (ap₂ (λ (a p : ℕ). times q (zeta (128 / m + a)) (get_or v p 0)) group second
      ∙ ap (λ x. times q (zeta (128 / m + g)) x) (before.at g (m + r) inside (omega arith)))
      ∙ plus-parts q (zeta (128 / m + g)) (part f m t r (root g)) (part f m t (m + r) (root g))
      ∙ sym (halves q f m t r (zeta (128 / m + g)) (root g) (λ s s_inside. squares g s inside s_inside))

  second-number : (m t g r : ℕ) (root : ℕ → ℕ) (f v w : List ℕ) → m * t ≡ 128 → LayerStage q zeta m v 128 w → Squares q zeta m t root → AreRemainders q (2 * m) t root f v
      → g < t → r < m → get_or w ((2 * g + 1) * m + r) 0 ≡ over 0 (2 * t) (λ s. get_or f (r + s * m) 0 * (q - zeta (128 / m + g)) ^ s) % q
  second-number m t g r root f v w whole stage squares before inside small =
      let k : ℕ = g * m + r in
      let k_inside : k < 128 = butterfly-of m t g r whole inside small in
      let group : k / m ≡ g = div-mul-add g m r small in
      let first : first_place m k ≡ g * (2 * m) + r = first-at m g r small ∙ omega arith in
      let second : first_place m k + m ≡ g * (2 * m) + (m + r) = omega (arith, first) in
      let there : first_place m k + m ≡ (2 * g + 1) * m + r = omega (arith, first) in
      let z : ℕ = 128 / m + g in
      ap (λ (p : ℕ). get_or w p 0) (sym there)
      ∙ stage.second_done k k_inside k_inside
      ∙ ap₂ (minus q)
      (ap (λ (p : ℕ). get_or v p 0) first ∙ before.at g r inside (omega arith))
      (ap₂ (λ (a p : ℕ). times q (zeta (128 / m + a)) (get_or v p 0)) group second
      ∙ ap (λ x. times q (zeta z) x) (before.at g (m + r) inside (omega arith)))
      ∙ minus-parts z (part f m t r (root g)) (part f m t (m + r) (root g))
      ∙ sym (halves q f m t r (q - zeta z) (root g)
      (λ s s_inside. power-mod q ((q - zeta z) ^ 2) (zeta z ^ 2) s (opposite-square z) ∙ squares g s inside s_inside))

  side-number : (m t g h r : ℕ) (root : ℕ → ℕ) (f v w : List ℕ) → m * t ≡ 128 → LayerStage q zeta m v 128 w → Squares q zeta m t root → AreRemainders q (2 * m) t root f v
      → g < t → h < 2 → r < m → get_or w ((2 * g + h) * m + r) 0 ≡ over 0 (2 * t) (λ s. get_or f (r + s * m) 0 * side q zeta m g h ^ s) % q
  side-number m t g zero r root f v w whole stage squares before inside low small =
      let place : (2 * g + zero) * m + r ≡ 2 * g * m + r = omega arith in
      ap (λ (p : ℕ). get_or w p 0) place ∙ first-number m t g r root f v w whole stage squares before inside small
  side-number m t g (suc zero) r root f v w whole stage squares before inside low small =
      second-number m t g r root f v w whole stage squares before inside small
  side-number m t g (suc (suc h)) r root f v w whole stage squares before inside low small = absurd (omega arith)

  pub layer-remainders : (m t : ℕ) (root : ℕ → ℕ) (f v w : List ℕ) → m * t ≡ 128 → LayerStage q zeta m v 128 w → Squares q zeta m t root → AreRemainders q (2 * m) t root f v
      → AreRemainders q m (2 * t) (root_of q zeta m) f w
  layer-remainders m t root f v w whole stage squares before = record {
    at = λ b r inside small.
        let is : 2 * (b / 2) + b % 2 ≡ b = div-add-mod b 2 in
        ap (λ (b : ℕ). get_or w (b * m + r) 0) (sym is)
        ∙ side-number m t (b / 2) (b % 2) r root f v w whole stage squares before (omega arith) (omega arith) small;
  }

-- ---- a list that is ready for a layer

pub record Ready (q m n : ℕ) (root : ℕ → ℕ) (f v : List ℕ) : Type 0 where
  pub size : length v ≡ 256
  pub remainders : AreRemainders q m n root f v

-- before the first layer
pub ready-first : (q : ℕ) (f : List ℕ) → IsPolynomial q f → Ready q 256 1 (λ b. 0) f f
ready-first q f is = record {
  size = is.size;
  remainders = record {
    at = λ b r inside small.
        let none : b ≡ 0 = omega arith in
        let place : 0 * 256 + r ≡ r = omega arith in
        let place2 : r ≡ r + 0 * 256 = omega arith in
        let one : over 1 0 (λ s. get_or f (r + s * 256) 0 * 0 ^ s) ≡ 0 = refl in
        let alone : over 0 1 (λ s. get_or f (r + s * 256) 0 * 0 ^ s) ≡ get_or f r 0 =
        over-suc 0 0 (λ s. get_or f (r + s * 256) 0 * 0 ^ s)
        ∙ ap (λ x. get_or f (r + 0 * 256) 0 * x + 0) (pow-zero 0)
        ∙ omega arith ∙ ap (λ (k : ℕ). get_or f k 0) (sym place2) in
        ap (λ (b : ℕ). get_or f (b * 256 + r) 0) none ∙ ap (λ (k : ℕ). get_or f k 0) place
        ∙ sym (ap (λ x. x % q) alone ∙ mod-eq_of_lt (is.each r 0 (omega (arith, is.size))));
  };
}

pub squares-first : (q : ℕ) (zeta : ℕ → ℕ) → Squares q zeta 128 1 (λ b. 0)
squares-first q zeta g zero inside low = ap (λ x. x % q) (pow-zero (zeta (128 / 128 + g) ^ 2) ∙ sym (pow-zero 0))
squares-first q zeta g (suc s) inside low = absurd (omega arith)

-- by a table
pub squares-from : (q : ℕ) (zeta : ℕ → ℕ) (m t : ℕ)
    → map (λ g. zeta (128 / m + g) ^ 2 % q) (range_with_len 0 t) ≡ map (λ g. root_of q zeta (2 * m) g % q) (range_with_len 0 t)
    → Squares q zeta m t (root_of q zeta (2 * m))
squares-from q zeta m t same g s inside s_inside =
    power-mod q (zeta (128 / m + g) ^ 2) (root_of q zeta (2 * m) g) s
    (from_table (λ g. zeta (128 / m + g) ^ 2 % q) (λ g. root_of q zeta (2 * m) g % q) 0 t g same (omega arith) (omega arith))
