-- What rounding changes in polynomials, and polynomials in bytes and back.
use Rattle.std.proofs.Common.{◌≡◌, ℕ, ◌+◌, ◌-◌, ◌*◌, ◌/◌, ◌^◌, ◌<◌, ◌≤◌, List, [], ◌∷◌, All, length, get_or, map, refl, sym, ap, ap₂, ◌∙◌, add-one, lit<, arith}
use Rattle.std.proofs.Math.Nat.{div-lt_iff_lt-mul, mod-lt, pow-le-pow_right, two-pow-succ}
use Rattle.std.proofs.lemmas.Bool.Decides.{nat_tests}
use Rattle.std.proofs.lemmas.List.{ext_get_or, get_or-map, length-map}
use Rattle.std.proofs.lemmas.List.Elements.{All-cons, All-head, All-nil, All-tail}
use Rattle.std.proofs.lemmas.Nat.{pow_pos}
use Rattle.std.proofs.lemmas.Simd.{get_or-zip2, length-zip2, map-map}
use Rattle.module_lattice.specs.Groups.{decoded, groups, ungroup}
use Rattle.module_lattice.specs.Ring.{IsPolynomial, difference, minus, plus, sum}
use Rattle.module_lattice.specs.Vectors.{vector_sum}
use Rattle.module_lattice.proofs.Regrouping.{length-regroup, regroup-regroup}
use Rattle.ml_kem.specs.Encryption.{compressed, decompressed}
use Rattle.ml_kem.specs.Rounding.{compress, decompress}
use Rattle.decryption_noise.specs.Noise.{change, rounded}

-- ---- single numbers

compress-lt : (d x : ℕ) → compress d x < 2 ^ d
compress-lt d x = mod-lt ((2 ^ (d + 1) * x + 3329) / (2 * 3329)) (pow_pos d)

pub decompress-lt : (d y : ℕ) → d ≤ 11 → y < 2 ^ d → decompress d y < 3329
decompress-lt d y narrow within =
    let most : 2 ^ d ≤ 2 ^ 11 = pow-le-pow_right (lit< tt) narrow in
    let twice : 2 ^ (d + 1) ≡ 2 ^ d + 2 ^ d = ap (λ (k : ℕ). 2 ^ k) (add-one d) ∙ two-pow-succ d in
    let some : 0 < 2 ^ (d + 1) = pow_pos (d + 1) in
    (div-lt_iff_lt-mul some).1 (omega arith)

rounded-lt : (d x : ℕ) → d ≤ 11 → rounded d x < 3329
rounded-lt d x narrow = decompress-lt d (compress d x) narrow (compress-lt d x)

-- x and what r changes in it
restored : (x r : ℕ) → x < 3329 → r < 3329 → plus 3329 x (minus 3329 r x) ≡ r
restored x r low low_r = omega arith

-- ---- polynomials

pub IsPolynomial-difference : (f g : List ℕ) → length f ≡ 256 → length g ≡ 256 → IsPolynomial 3329 (difference 3329 f g)
IsPolynomial-difference f g long_f long_g =
    let size : length (difference 3329 f g) ≡ 256 = length-zip2 (minus 3329) f g (long_f ∙ sym long_g) ∙ long_f in
    record {
      size = size;
      each = λ k d within.
          rw (get_or-zip2 (minus 3329) f g k 0 0 d (omega (arith, size, within)) (omega (arith, size, within)))
          (mod-lt (get_or f k 0 + (3329 - get_or g k 0)) (omega arith));
    }

pub IsPolynomial-change : (d : ℕ) (f : List ℕ) → length f ≡ 256 → IsPolynomial 3329 (change d f)
unfolding change
IsPolynomial-change d f long = IsPolynomial-difference (map (rounded d) f) f (length-map f (rounded d) ∙ long) long

pub sum-change : (d : ℕ) (f : List ℕ) → d ≤ 11 → IsPolynomial 3329 f → sum 3329 f (change d f) ≡ map (rounded d) f
unfolding change
sum-change d f narrow is =
    let r : List ℕ = map (rounded d) f in
    let long_r : length r ≡ length f = length-map f (rounded d) in
    let long : length (difference 3329 r f) ≡ length f = length-zip2 (minus 3329) r f long_r ∙ long_r in
    let long_sum : length (sum 3329 f (difference 3329 r f)) ≡ length f = length-zip2 (plus 3329) f (difference 3329 r f) (sym long) in
    ext_get_or 0 (sum 3329 f (difference 3329 r f)) r (long_sum ∙ sym long_r)
    (λ k below.
    let within : k < length f = omega (arith, below, long_sum) in
    let at : get_or r k 0 ≡ rounded d (get_or f k 0) = get_or-map (rounded d) f k 0 0 within in
    get_or-zip2 (plus 3329) f (difference 3329 r f) k 0 0 0 within (omega (arith, within, long))
    ∙ ap (plus 3329 (get_or f k 0)) (get_or-zip2 (minus 3329) r f k 0 0 0 (omega (arith, within, long_r)) within)
    ∙ restored (get_or f k 0) (get_or r k 0) (is.each k 0 within) (rw at (rounded-lt d (get_or f k 0) narrow)))

-- ---- vectors

pub IsPolynomial-changes : (d : ℕ) (u : List (List ℕ)) → All (IsPolynomial 3329) u → All (IsPolynomial 3329) (map (change d) u)
IsPolynomial-changes d [] each = All-nil (IsPolynomial 3329)
IsPolynomial-changes d (f ∷ u) each =
    All-cons (IsPolynomial 3329) (change d f) (map (change d) u) (IsPolynomial-change d f (All-head (IsPolynomial 3329) f u each).size)
    (IsPolynomial-changes d u (All-tail (IsPolynomial 3329) f u each))

pub sum-changes : (d : ℕ) (u : List (List ℕ)) → d ≤ 11 → All (IsPolynomial 3329) u → vector_sum 3329 u (map (change d) u) ≡ map (map (rounded d)) u
sum-changes d [] narrow each = refl
sum-changes d (f ∷ u) narrow each =
    ap₂ (λ (g : List ℕ) (v : List (List ℕ)). g ∷ v) (sum-change d f narrow (All-head (IsPolynomial 3329) f u each))
    (sum-changes d u narrow (All-tail (IsPolynomial 3329) f u each))

-- ---- bytes

pub length-compressed : (d : ℕ) (f : List ℕ) → length f ≡ 256 → length (compressed d f) ≡ 32 * d
unfolding compressed groups
length-compressed d f long =
    let bits : d * length (map (compress d) f) ≡ d * 256 = ap (λ (n : ℕ). d * n) (length-map f (compress d) ∙ long) in
    length-regroup d 8 (32 * d) (map (compress d) f) (omega arith) (omega arith)

decoded-narrow : (d : ℕ) (bytes : List ℕ) → d < 12 → decoded 3329 d bytes ≡ ungroup d bytes
decoded-narrow d bytes narrow = grind (arith, nat_tests)

All-compressed : (d : ℕ) (f : List ℕ) → All (λ x. x < 2 ^ d) (map (compress d) f)
All-compressed d [] = All-nil (λ x. x < 2 ^ d)
All-compressed d (x ∷ f) = All-cons (λ x. x < 2 ^ d) (compress d x) (map (compress d) f) (compress-lt d x) (All-compressed d f)

pub decompressed-compressed : (d : ℕ) (f : List ℕ) → 1 ≤ d → d ≤ 11 → length f ≡ 256 → decompressed d (compressed d f) ≡ map (rounded d) f
unfolding compressed decompressed groups ungroup
decompressed-compressed d f positive narrow long =
    let values : List ℕ = map (compress d) f in
    let bits : d * length values ≡ d * 256 = ap (λ (n : ℕ). d * n) (length-map f (compress d) ∙ long) in
    ap (map (decompress d))
    (decoded-narrow d (groups d values) (omega arith) ∙ regroup-regroup d 8 (32 * d) values positive (omega arith) (omega arith) (All-compressed d f))
    ∙ map-map (decompress d) (compress d) f
