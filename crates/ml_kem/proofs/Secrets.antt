-- The keys that seeds give, and the secrets that are decapsulated and encapsulated.
use Rattle.std.proofs.Common.{◌≡◌, ◌≢◌, ℕ, ◌++◌, Bool, true, false, List, Option, None, Some, length, map, take, drop, refl, sym, ap, ◌∙◌, arith, length-take-le}
use Rattle.std.specs.List.{flat_map, range_with_len}
use Rattle.std.specs.Option.{option_map}
use Rattle.std.specs.Prelude.{if◌then◌else◌}
use Rattle.std.specs.Str.{bytes_eq}
use Rattle.std.proofs.lemmas.List.{length-map}
use Rattle.std.proofs.lemmas.List.FromFn.{length-range_with_len}
use Rattle.std.proofs.lemmas.Option.{none-some, same_Some}
use Rattle.std.proofs.lemmas.Simd.{length-zip2}
use Rattle.kem_hash.specs.Family.{Family, IsLawful}
use Rattle.module_lattice.specs.Groups.{groups}
use Rattle.module_lattice.specs.Ring.{product, sum}
use Rattle.module_lattice.specs.Vectors.{dot_product, matrix_product, vector_sum}
use Rattle.lattice_transform.specs.Transform.{transform}
use Rattle.ml_kem.specs.Encapsulation.{chosen_key, decaps, encaps, key_and_coins}
use Rattle.ml_kem.specs.Encryption.{decrypt, encrypt}
use Rattle.ml_kem.specs.Keys.{Key, encoded_vector, expanded_seed, key_of, key_with, rho_part}
use Rattle.ml_kem.specs.Matrix.{matrix, noise, noise_polynomial, row}
use Rattle.ml_kem.specs.Parameters.{Parameters, q}
use Rattle.ml_kem.proofs.Building.{length-collected}
use Rattle.ml_kem.proofs.Domain.{IsPolynomial-transforms}
use Rattle.ml_kem.proofs.Encoded.{rho-of}
use Rattle.ml_kem.proofs.Meanings.{encaps-none, encrypt-none, encrypt-none-from, mapped-none}

length-noise : (family : Family) (eta : ℕ) (seed : List ℕ) (first count : ℕ) → length (noise family eta seed first count) ≡ count
unfolding noise
length-noise family eta seed first count = length-map (range_with_len first count) (noise_polynomial family eta seed) ∙ length-range_with_len first count

length-matrix : (family : Family) (k : ℕ) (rho : List ℕ) (rows : List (List (List ℕ))) → matrix family k rho ≡ Some rows → length rows ≡ k
unfolding matrix
length-matrix family k rho rows is = length-collected (row family k rho) k rows is

-- the matrix of the rho that stands in a key
matrix-made : (set : Parameters) (family : Family) (rho sigma z : List ℕ) (o : Option (List (List (List ℕ)))) (key : Key) → matrix family set.k rho ≡ o
    → option_map (key_with set family rho sigma z) o ≡ Some key → matrix family set.k (rho_part set key.ek) ≢ None
unfolding key_with encoded_vector
matrix-made set family rho sigma z None key is made = absurd (none-some _ made)
matrix-made set family rho sigma z (Some rows) key is made =
    let s : List (List ℕ) = noise family set.eta1 sigma 0 set.k in
    let e : List (List ℕ) = noise family set.eta1 sigma set.k set.k in
    let multiplied : List (List ℕ) = matrix_product q (product q) rows s in
    let t : List (List ℕ) = vector_sum q multiplied e in
    let same : key_with set family rho sigma z rows ≡ key = same_Some _ _ made in
    let size : length multiplied ≡ set.k = length-map rows (λ row. dot_product q (product q) row s) ∙ length-matrix family set.k rho rows is in
    let long : length t ≡ set.k = length-zip2 (sum q) multiplied e (size ∙ sym (length-noise family set.eta1 sigma set.k set.k)) ∙ size in
    let ek_is : key.ek ≡ flat_map (groups 12) (map transform t) ++ rho = ap (λ (k : Key). k.ek) (sym same) in
    λ none. none-some rows (sym none ∙ ap (matrix family set.k) (rho-of set (map transform t) rho key.ek (IsPolynomial-transforms t) (length-map t transform ∙ long) ek_is) ∙ is)

pub matrix-key_of : (set : Parameters) (family : Family) (seed : List ℕ) (key : Key) → key_of set family seed ≡ Some key → matrix family set.k (rho_part set key.ek) ≢ None
unfolding key_of
matrix-key_of set family seed key made =
    let expanded : List ℕ = expanded_seed set family seed in
    matrix-made set family (take 32 expanded) (drop 32 expanded) (drop 32 seed) (matrix family set.k (take 32 expanded)) key refl made

-- a seed gives no key where the matrix of its rho is none alone
pub key_of-none-from : (set : Parameters) (family : Family) (seed : List ℕ) → key_of set family seed ≡ None → matrix family set.k (take 32 (expanded_seed set family seed)) ≡ None
unfolding key_of
key_of-none-from set family seed none =
    let expanded : List ℕ = expanded_seed set family seed in
    mapped-none (key_with set family (take 32 expanded) (drop 32 expanded) (drop 32 seed)) (matrix family set.k (take 32 expanded)) none

pub key_of-none-by : (set : Parameters) (family : Family) (seed : List ℕ) → matrix family set.k (take 32 (expanded_seed set family seed)) ≡ None → key_of set family seed ≡ None
unfolding key_of
key_of-none-by set family seed none =
    let expanded : List ℕ = expanded_seed set family seed in
    ap (option_map (key_with set family (take 32 expanded) (drop 32 expanded) (drop 32 seed))) none

-- encapsulation is refused where the matrix is none alone
pub encaps-none-from : (set : Parameters) (family : Family) (ek m : List ℕ) → encaps set family ek m ≡ None → matrix family set.k (rho_part set ek) ≡ None
unfolding encaps
encaps-none-from set family ek m none =
    let made : List ℕ = key_and_coins family ek m in
    encrypt-none-from set family ek m (drop 32 made)
    (mapped-none (λ (c : List ℕ). let pair : List ℕ × List ℕ = (c, take 32 made) in pair) (encrypt set family ek m (drop 32 made)) none)

pub encaps-none-by : (set : Parameters) (family : Family) (ek m : List ℕ) → matrix family set.k (rho_part set ek) ≡ None → encaps set family ek m ≡ None
encaps-none-by set family ek m none =
    let made : List ℕ = key_and_coins family ek m in
    encaps-none set family ek m made refl (encrypt-none set family ek m (drop 32 made) none)

-- decapsulation is refused where the matrix is none alone
pub decaps-there : (set : Parameters) (family : Family) (s : List (List ℕ)) (ek z c : List ℕ) → matrix family set.k (rho_part set ek) ≢ None → decaps set family s ek z c ≢ None
unfolding decaps
decaps-there set family s ek z c there none =
    let m : List ℕ = decrypt set s c in
    let made : List ℕ = key_and_coins family ek m in
    there (encrypt-none-from set family ek m (drop 32 made) (mapped-none (chosen_key family (take 32 made) z c) (encrypt set family ek m (drop 32 made)) none))

-- a shared key has 32 bytes
length-first_half : (family : Family) (x : List ℕ) → IsLawful family → length (take 32 (family.g_of x)) ≡ 32
length-first_half family x lawful = length-take-le 32 (family.g_of x) (omega (arith, (lawful.g_is x).size))

length-either : (b : Bool) (xs ys : List ℕ) → length xs ≡ 32 → length ys ≡ 32 → length (if b then xs else ys) ≡ 32
length-either true xs ys first second = first
length-either false xs ys first second = second

length-chosen : (family : Family) (key z c : List ℕ) (o : Option (List ℕ)) (secret : List ℕ) → IsLawful family → length key ≡ 32
    → option_map (chosen_key family key z c) o ≡ Some secret → length secret ≡ 32
length-chosen family key z c None secret lawful long is = absurd (none-some _ is)
length-chosen family key z c (Some again) secret lawful long is =
    ap length (sym (same_Some _ _ is)) ∙ length-either (bytes_eq again c) key (family.j_of (z ++ c)) long (lawful.j_is (z ++ c)).size

pub length-decaps : (set : Parameters) (family : Family) (s : List (List ℕ)) (ek z c secret : List ℕ) → IsLawful family → decaps set family s ek z c ≡ Some secret → length secret ≡ 32
unfolding decaps
length-decaps set family s ek z c secret lawful is =
    let m : List ℕ = decrypt set s c in
    let made : List ℕ = key_and_coins family ek m in
    length-chosen family (take 32 made) z c (encrypt set family ek m (drop 32 made)) secret lawful (length-first_half family (m ++ family.h_of ek) lawful) is

length-paired : (key : List ℕ) (o : Option (List ℕ)) (c secret : List ℕ) → length key ≡ 32 → option_map (λ d. let pair : List ℕ × List ℕ = (d, key) in pair) o ≡ Some (c, secret) → length secret ≡ 32
length-paired key None c secret long is = absurd (none-some _ is)
length-paired key (Some d) c secret long is =
    let same : (d, key) ≡ (c, secret) = same_Some _ _ is in
    sym (ap (λ (made : List ℕ × List ℕ). length made.1) same) ∙ long

pub length-encaps : (set : Parameters) (family : Family) (ek m c secret : List ℕ) → IsLawful family → encaps set family ek m ≡ Some (c, secret) → length secret ≡ 32
unfolding encaps
length-encaps set family ek m c secret lawful is =
    let made : List ℕ = key_and_coins family ek m in
    length-paired (take 32 made) (encrypt set family ek m (drop 32 made)) c secret (length-first_half family (m ++ family.h_of ek) lawful) is
