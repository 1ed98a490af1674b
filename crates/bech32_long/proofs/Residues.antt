-- What six values do to the register, and that each value counts.
use Rattle.std.proofs.Common.{◌≡◌, ℕ, zero, suc, ◌+◌, ◌-◌, ◌*◌, ◌/◌, ◌%◌, ◌^◌, ◌<◌, ◌≤◌, List, [], ◌∷◌, ◌++◌, length, get_or, map, replicate, All, refl, sym, ap, subst, ◌∙◌, arith}
use Rattle.std.specs.Prelude.{bit_xor}
use Rattle.std.specs.List.{fold, range_with_len}
use Rattle.std.proofs.Math.Nat.{pow-le-pow_right}
use Rattle.std.proofs.lemmas.List.{get_or-map}
use Rattle.std.proofs.lemmas.List.Elements.{All-head, All-tail, All-append, All-cons, All-replicate}
use Rattle.std.proofs.lemmas.List.FromFn.{get_or-range_with_len}
use Rattle.std.proofs.lemmas.Nat.{xor_lt, xor_shr, xor_mod, xor_block, mod_below, mod-mul-add, pow-add, shr_split, same_from_place}
use lib.Bits.{xor_zero_l, xor_zero_r, xor_assoc, xor_comm, xor_self}
use Rattle.bech32_long.specs.declared.checksum.TheConstants.{MULTIPLES}
use Rattle.bech32_long.specs.Field.{product, product_of}
use Rattle.bech32_long.specs.Groups.{digits_of, number_of}
use Rattle.bech32_long.specs.Checksum.{checksum, expanded, one, residue}
use Rattle.bech32_long.specs.private.Register.{next_register, register_after}
use Rattle.bech32_long.proofs.DigitLemmas.{length-digits_of, number_of-digits_of, digits_of-lt}
use Rattle.bech32_long.proofs.Regrouped.{digits_of-number_of, number_of-32-lt}
use Rattle.bech32_long.proofs.Registers.{checksum-register, expanded-lt, next_register-lt, one-is, register_after-append, register_after-cons, register_after-nil, residue-register}

-- ---- the exclusive or

pub xor-twice : (a b : ℕ) → bit_xor a (bit_xor a b) ≡ b
xor-twice a b = sym (xor_assoc a a b) ∙ ap (λ (k : ℕ). bit_xor k b) (xor_self a) ∙ xor_zero_l b

xor-cancel : (a b c : ℕ) → bit_xor a b ≡ bit_xor a c → b ≡ c
xor-cancel a b c e = sym (xor-twice a b) ∙ ap (bit_xor a) e ∙ xor-twice a c

xor-cancel_right : (a b c : ℕ) → bit_xor b a ≡ bit_xor c a → b ≡ c
xor-cancel_right a b c e = xor-cancel a b c (xor_comm a b ∙ e ∙ xor_comm c a)

-- ---- bounds

pub register_after-lt : (vs : List ℕ) (register : ℕ) → register < 2 ^ 30 → All (λ v. v < 32) vs → register_after register vs < 2 ^ 30
register_after-lt [] register h all = rw (register_after-nil register) h
register_after-lt (v ∷ vs) register h all =
    rw (register_after-cons register v vs)
    (register_after-lt vs (next_register register v) (next_register-lt register v (All-head (λ (x : ℕ). x < 32) v vs all)) (All-tail (λ (x : ℕ). x < 32) v vs all))

-- ---- six values are added to the register after six zeros

next_register-sum : (s d v : ℕ) → d < 2 ^ 25 → v < 32 → next_register (bit_xor s d) v ≡ bit_xor (next_register s 0) (d * 32 + v)
unfolding next_register
next_register-sum s d v h below =
    let low : bit_xor s d % 2 ^ 25 ≡ bit_xor (s % 2 ^ 25) d =
    let same : d % 2 ^ 25 ≡ d = omega arith in
    xor_mod s d 25 ∙ ap (bit_xor (s % 2 ^ 25)) same in
    let top : bit_xor s d / 2 ^ 25 ≡ s / 2 ^ 25 =
    let none : d / 2 ^ 25 ≡ 0 = omega arith in
    xor_shr s d 25 ∙ ap (bit_xor (s / 2 ^ 25)) none ∙ xor_zero_r (s / 2 ^ 25) in
    let a : ℕ = s % 2 ^ 25 * 32 + 0 in
    let b : ℕ = d * 32 + v in
    let row : ℕ = get_or MULTIPLES (s / 2 ^ 25) 0 in
    let block : bit_xor (s % 2 ^ 25) d * 32 + v ≡ bit_xor a b =
    sym (xor_block 5 (s % 2 ^ 25) d 0 v (omega arith) below ∙ ap (λ (k : ℕ). bit_xor (s % 2 ^ 25) d * 32 + k) (xor_zero_l v)) in
    ap (λ (k : ℕ). bit_xor (k * 32 + v) (get_or MULTIPLES (bit_xor s d / 2 ^ 25) 0)) low
    ∙ ap (λ (k : ℕ). bit_xor (bit_xor (s % 2 ^ 25) d * 32 + v) (get_or MULTIPLES k 0)) top
    ∙ ap (λ (k : ℕ). bit_xor k row) block
    ∙ xor_assoc a b row ∙ ap (bit_xor a) (xor_comm b row) ∙ sym (xor_assoc a row b)

register_after-sum : (vs : List ℕ) (j s d : ℕ) → j + length vs ≡ 6 → d < 2 ^ (5 * j) → All (λ v. v < 32) vs
    → register_after (bit_xor s d) vs ≡ bit_xor (register_after s (replicate (length vs) 0)) (fold (λ n v. n * 32 + v) d vs)
register_after-sum [] j s d e h all = register_after-nil (bit_xor s d) ∙ ap (λ (k : ℕ). bit_xor k d) (sym (register_after-nil s))
register_after-sum (v ∷ vs) j s d e h all =
    let below : v < 32 = All-head (λ (x : ℕ). x < 32) v vs all in
    let power : 2 ^ (5 * j) ≤ 2 ^ 25 = pow-le-pow_right {n = 2} (omega arith) {i = 5 * j} {j = 25} (omega arith) in
    let small : d < 2 ^ 25 = omega arith in
    let turned : 5 * j + 5 ≡ 5 * (j + 1) = omega arith in
    let wide : 2 ^ (5 * j) * 32 ≡ 2 ^ (5 * (j + 1)) = sym (pow-add 2 (5 * j) 5) ∙ ap (λ (k : ℕ). 2 ^ k) turned in
    let more : d * 32 + v < 2 ^ (5 * (j + 1)) = omega (arith, wide) in
    register_after-cons (bit_xor s d) v vs
    ∙ ap (λ (r : ℕ). register_after r vs) (next_register-sum s d v small below)
    ∙ register_after-sum vs (j + 1) (next_register s 0) (d * 32 + v) (omega arith) more (All-tail (λ (x : ℕ). x < 32) v vs all)
    ∙ ap (λ (r : ℕ). bit_xor r (fold (λ n x. n * 32 + x) (d * 32 + v) vs)) (sym (register_after-cons s 0 (replicate (length vs) 0)))

six_values : (vs : List ℕ) (s : ℕ) → length vs ≡ 6 → All (λ v. v < 32) vs → register_after s vs ≡ bit_xor (register_after s (replicate 6 0)) (number_of 32 vs)
unfolding number_of
six_values vs s e all =
    ap (λ (r : ℕ). register_after r vs) (sym (xor_zero_r s)) ∙ register_after-sum vs 0 s 0 (omega arith) (omega arith) all
    ∙ ap (λ (k : ℕ). bit_xor (register_after s (replicate k 0)) (number_of 32 vs)) e

-- ---- the checksum is the one continuation with the residue 1

module _ (part values : List ℕ) (bytes : (k : ℕ) → get_or part k 0 < 256) (all : All (λ v. v < 32) values) where
  abbrev before : ℕ
  before = register_after (register_after 1 (expanded part)) values

  abbrev after : ℕ
  after = register_after before (replicate 6 0)

  zeros-lt : All (λ v. v < 32) (replicate 6 0)
  zeros-lt = All-replicate (λ (v : ℕ). v < 32) 6 0 (omega arith)

  after-lt : after < 2 ^ 30
  after-lt =
      register_after-lt (replicate 6 0) before
      (register_after-lt values (register_after 1 (expanded part)) (register_after-lt (expanded part) 1 (omega arith) (expanded-lt part bytes)) all) zeros-lt

  sum-lt : bit_xor after 1 < 2 ^ 30
  sum-lt = xor_lt 30 after 1 after-lt (omega arith)

  residue-six : (six : List ℕ) → length six ≡ 6 → All (λ v. v < 32) six → residue part (values ++ six) ≡ digits_of 32 6 (bit_xor after (number_of 32 six))
  residue-six six e h =
      residue-register part (values ++ six) bytes (All-append (λ (v : ℕ). v < 32) values six all h)
      ∙ ap (digits_of 32 6) (register_after-append (register_after 1 (expanded part)) values six ∙ six_values six before e h)

  checksum-is : checksum part values ≡ digits_of 32 6 (bit_xor after 1)
  checksum-is = checksum-register part values bytes all

  pub length-checksum : length (checksum part values) ≡ 6
  length-checksum = ap length checksum-is ∙ length-digits_of 32 6 (bit_xor after 1)

  pub checksum-lt : All (λ v. v < 32) (checksum part values)
  checksum-lt = subst (All (λ (v : ℕ). v < 32)) (sym checksum-is) (digits_of-lt 32 6 (bit_xor after 1) (omega arith))

  pub residue-checksum : residue part (values ++ checksum part values) ≡ one
  residue-checksum =
      residue-six (checksum part values) length-checksum checksum-lt
      ∙ ap (λ (six : List ℕ). digits_of 32 6 (bit_xor after (number_of 32 six))) checksum-is
      ∙ ap (λ (k : ℕ). digits_of 32 6 (bit_xor after k)) (number_of-digits_of 32 6 (bit_xor after 1) (omega arith) sum-lt)
      ∙ ap (digits_of 32 6) (xor-twice after 1) ∙ sym one-is

  pub checksum-from_residue : (six : List ℕ) → length six ≡ 6 → All (λ v. v < 32) six → residue part (values ++ six) ≡ one → six ≡ checksum part values
  checksum-from_residue six e h is =
      let six-lt : number_of 32 six < 2 ^ 30 = subst (λ (k : ℕ). number_of 32 six < 2 ^ (5 * k)) e (number_of-32-lt six h) in
      let digits : digits_of 32 6 (bit_xor after (number_of 32 six)) ≡ digits_of 32 6 1 = sym (residue-six six e h) ∙ is ∙ one-is in
      let number : bit_xor after (number_of 32 six) ≡ 1 =
      sym (number_of-digits_of 32 6 (bit_xor after (number_of 32 six)) (omega arith) (xor_lt 30 after (number_of 32 six) after-lt six-lt))
      ∙ ap (number_of 32) digits ∙ number_of-digits_of 32 6 1 (omega arith) (omega arith) in
      let value : number_of 32 six ≡ bit_xor after 1 = sym (xor-twice after (number_of 32 six)) ∙ ap (bit_xor after) number in
      sym (digits_of-number_of 32 six h) ∙ ap (λ (k : ℕ). digits_of 32 k (number_of 32 six)) e ∙ ap (digits_of 32 6) value ∙ sym checksum-is

-- ---- each value counts

-- 17 times 18 is 1, so the lowest digit of a row tells its place
rows : map (λ n. product 17 (n % 32)) MULTIPLES ≡ range_with_len 0 32
unfolding product product_of
rows = refl

place_of-row : (t : ℕ) → t < 32 → product 17 (get_or MULTIPLES t 0 % 32) ≡ t
place_of-row t h =
    sym (get_or-map (λ n. product 17 (n % 32)) MULTIPLES t 0 0 h) ∙ ap (λ (xs : List ℕ). get_or xs t 0) rows ∙ get_or-range_with_len 0 32 t 0 h
    ∙ omega arith

next_register-low : (r v : ℕ) → v < 32 → next_register r v % 32 ≡ bit_xor v (get_or MULTIPLES (r / 2 ^ 25) 0 % 32)
unfolding next_register
next_register-low r v h =
    xor_mod (r % 2 ^ 25 * 32 + v) (get_or MULTIPLES (r / 2 ^ 25) 0) 5
    ∙ ap (λ (k : ℕ). bit_xor k (get_or MULTIPLES (r / 2 ^ 25) 0 % 32)) (mod-mul-add (r % 2 ^ 25) 32 v h)

next_register-row : (r v row : ℕ) → get_or MULTIPLES (r / 2 ^ 25) 0 ≡ row → next_register r v ≡ bit_xor (r % 2 ^ 25 * 32 + v) row
unfolding next_register
next_register-row r v row e = ap (bit_xor (r % 2 ^ 25 * 32 + v)) e

pub next_register-same : (r s v : ℕ) → r < 2 ^ 30 → s < 2 ^ 30 → v < 32 → next_register r v ≡ next_register s v → r ≡ s
next_register-same r s v hr hs h e =
    let row_r : ℕ = get_or MULTIPLES (r / 2 ^ 25) 0 in
    let row_s : ℕ = get_or MULTIPLES (s / 2 ^ 25) 0 in
    let low : row_r % 32 ≡ row_s % 32 =
    xor-cancel v (row_r % 32) (row_s % 32) (sym (next_register-low r v h) ∙ ap (λ (k : ℕ). k % 32) e ∙ next_register-low s v h) in
    let top : r / 2 ^ 25 ≡ s / 2 ^ 25 =
    sym (place_of-row (r / 2 ^ 25) (omega arith)) ∙ ap (product 17) low ∙ place_of-row (s / 2 ^ 25) (omega arith) in
    let row : row_r ≡ row_s = ap (λ (t : ℕ). get_or MULTIPLES t 0) top in
    let rest : r % 2 ^ 25 * 32 + v ≡ s % 2 ^ 25 * 32 + v =
    xor-cancel_right row_s (r % 2 ^ 25 * 32 + v) (s % 2 ^ 25 * 32 + v) (sym (next_register-row r v row_s row) ∙ e ∙ next_register-row s v row_s refl) in
    omega arith

pub next_register-value : (r v w : ℕ) → v < 32 → w < 32 → next_register r v ≡ next_register r w → v ≡ w
next_register-value r v w hv hw e =
    let row : ℕ = get_or MULTIPLES (r / 2 ^ 25) 0 in
    let rest : r % 2 ^ 25 * 32 + v ≡ r % 2 ^ 25 * 32 + w =
    xor-cancel_right row (r % 2 ^ 25 * 32 + v) (r % 2 ^ 25 * 32 + w) (sym (next_register-row r v row refl) ∙ e ∙ next_register-row r w row refl) in
    omega arith

register_after-same : (vs : List ℕ) (r s : ℕ) → r < 2 ^ 30 → s < 2 ^ 30 → All (λ v. v < 32) vs → register_after r vs ≡ register_after s vs → r ≡ s
register_after-same [] r s hr hs all e = sym (register_after-nil r) ∙ e ∙ register_after-nil s
register_after-same (v ∷ vs) r s hr hs all e =
    let below : v < 32 = All-head (λ (x : ℕ). x < 32) v vs all in
    next_register-same r s v hr hs below
    (register_after-same vs (next_register r v) (next_register s v) (next_register-lt r v below) (next_register-lt s v below) (All-tail (λ (x : ℕ). x < 32) v vs all)
    (sym (register_after-cons r v vs) ∙ e ∙ register_after-cons s v vs))

-- two lists of values that differ in one place at most, and have one residue, are one
pub same_value : (part xs ys : List ℕ) (v w : ℕ) → ((k : ℕ) → get_or part k 0 < 256) → All (λ x. x < 32) xs → All (λ x. x < 32) ys → v < 32 → w < 32
    → residue part (xs ++ v ∷ ys) ≡ one → residue part (xs ++ w ∷ ys) ≡ one → v ≡ w
same_value part xs ys v w bytes hx hy hv hw ev ew =
    let start : ℕ = register_after 1 (expanded part) in
    let r : ℕ = register_after start xs in
    let start-lt : start < 2 ^ 30 = register_after-lt (expanded part) 1 (omega arith) (expanded-lt part bytes) in
    let all : (x : ℕ) → x < 32 → All (λ y. y < 32) (xs ++ x ∷ ys) = λ (x : ℕ) (h : x < 32). All-append (λ (y : ℕ). y < 32) xs (x ∷ ys) hx (All-cons (λ (y : ℕ). y < 32) x ys h hy) in
    let number : (x : ℕ) → x < 32 → residue part (xs ++ x ∷ ys) ≡ one → register_after (next_register r x) ys ≡ 1 =
    λ (x : ℕ) (h : x < 32) (is : residue part (xs ++ x ∷ ys) ≡ one).
    sym (register_after-cons r x ys) ∙ sym (register_after-append start xs (x ∷ ys))
    ∙ sym (number_of-digits_of 32 6 (register_after start (xs ++ x ∷ ys)) (omega arith) (register_after-lt (xs ++ x ∷ ys) start start-lt (all x h)))
    ∙ ap (number_of 32) (sym (residue-register part (xs ++ x ∷ ys) bytes (all x h)) ∙ is ∙ one-is)
    ∙ number_of-digits_of 32 6 1 (omega arith) (omega arith) in
    next_register-value r v w hv hw
    (register_after-same ys (next_register r v) (next_register r w) (next_register-lt r v hv) (next_register-lt r w hw) hy (number v hv ev ∙ sym (number w hw ew)))
