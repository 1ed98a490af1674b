-- The texts of keys are a header and a key behind it.
use Rattle.std.proofs.Common.{◌≡◌, ℕ, ◌+◌, ◌-◌, ◌/◌, ◌%◌, ◌≤◌, inl, inr, List, [], ◌∷◌, ◌++◌, length, refl, ap, sym, ◌∙◌, subst, cond, ltb, arith, length-append, append_assoc, lit≤}
use Rattle.std.proofs.lemmas.Bool.{le-ltb}
use Rattle.ml_kem.specs.Parameters.{IsSet, Parameters, ml_kem_512, ml_kem_768, ml_kem_1024}
use Rattle.key_der.specs.Der.{bit_string, encoding, implicit_0, integer, length_octets, octet_string, opening, sequence}
use Rattle.key_der.specs.Keys.{algorithm_identifier, oid, one_asymmetric_key, private_header, public_header, subject_public_key_info}

-- a fact of each set holds of a set
pub of_sets : (P : Parameters → Type 0) (set : Parameters) → IsSet set → P ml_kem_512 → P ml_kem_768 → P ml_kem_1024 → P set
of_sets P set is at_512 at_768 at_1024 = elim is [
  | inl e ↦ subst P (sym e) at_512
  | inr other ↦ elim other [ inl e ↦ subst P (sym e) at_768 | inr e ↦ subst P (sym e) at_1024 ]
]

-- the nine bytes of an object identifier
pub oid-bytes : (set : Parameters) → IsSet set → oid set ≡ 0x60 ∷ 0x86 ∷ 0x48 ∷ 0x01 ∷ 0x65 ∷ 0x03 ∷ 0x04 ∷ 0x04 ∷ (set.k - 1) ∷ []
unfolding oid
oid-bytes set is = of_sets (λ set. oid set ≡ 0x60 ∷ 0x86 ∷ 0x48 ∷ 0x01 ∷ 0x65 ∷ 0x03 ∷ 0x04 ∷ 0x04 ∷ (set.k - 1) ∷ []) set is refl refl refl

-- an algorithm identifier is its object identifier and four bytes before it
pub algorithm_identifier-bytes : (set : Parameters) → IsSet set → algorithm_identifier set ≡ 0x30 ∷ 11 ∷ 0x06 ∷ 9 ∷ oid set
unfolding algorithm_identifier encoding length_octets oid
algorithm_identifier-bytes set is = of_sets (λ set. algorithm_identifier set ≡ 0x30 ∷ 11 ∷ 0x06 ∷ 9 ∷ oid set) set is refl refl refl

length-algorithm_identifier : (set : Parameters) → IsSet set → length (algorithm_identifier set) ≡ 13
unfolding algorithm_identifier encoding length_octets oid
length-algorithm_identifier set is = of_sets (λ set. length (algorithm_identifier set) ≡ 13) set is refl refl refl

-- both headers have 22 bytes
pub length-private_header : (set : Parameters) → IsSet set → length (private_header set) ≡ 22
unfolding private_header algorithm_identifier encoding length_octets oid
length-private_header set is = of_sets (λ set. length (private_header set) ≡ 22) set is refl refl refl

pub length-public_header : (set : Parameters) → IsSet set → length (public_header set) ≡ 22
unfolding public_header algorithm_identifier encoding length_octets oid
length-public_header set is = of_sets (λ set. length (public_header set) ≡ 22) set is refl refl refl

-- an encoding by the length of its contents
encoding-sized : (identifier n : ℕ) (contents : List ℕ) → length contents ≡ n → encoding identifier contents ≡ opening identifier n ++ contents
unfolding encoding
encoding-sized identifier n contents sized = ap (λ (m : ℕ). opening identifier m ++ contents) sized

-- length octets of 256 bytes and more
pub length_octets-long : (n : ℕ) → 256 ≤ n → length_octets n ≡ 0x82 ∷ (n / 256) ∷ (n % 256) ∷ []
unfolding length_octets
length_octets-long n long =
    ap (λ test. cond test (n ∷ []) (cond (ltb n 256) (0x81 ∷ n ∷ []) (0x82 ∷ (n / 256) ∷ (n % 256) ∷ []))) (le-ltb n 128 (omega arith))
    ∙ ap (λ test. cond test (0x81 ∷ n ∷ []) (0x82 ∷ (n / 256) ∷ (n % 256) ∷ [])) (le-ltb n 256 long)

-- an encapsulation key has more than 255 bytes
pub long_key : (set : Parameters) → IsSet set → 256 ≤ set.ek_size
long_key set is = of_sets (λ set. 256 ≤ set.ek_size) set is (lit≤ tt) (lit≤ tt) (lit≤ tt)

-- and fewer than 2000
pub short_key : (set : Parameters) → IsSet set → set.ek_size ≤ 2000
short_key set is = of_sets (λ set. set.ek_size ≤ 2000) set is (lit≤ tt) (lit≤ tt) (lit≤ tt)

-- the contents of a private key
private_contents : (set : Parameters) (seed : List ℕ) → length seed ≡ 64
    → encoding integer (0 ∷ []) ++ algorithm_identifier set ++ encoding octet_string (encoding implicit_0 seed)
    ≡ encoding integer (0 ∷ []) ++ algorithm_identifier set ++ (opening octet_string 66 ++ (opening implicit_0 64 ++ seed))
unfolding length_octets
private_contents set seed sized =
    let front : List ℕ = encoding integer (0 ∷ []) ++ algorithm_identifier set in
    let inner : encoding implicit_0 seed ≡ opening implicit_0 64 ++ seed = encoding-sized implicit_0 64 seed sized in
    let long : length (opening implicit_0 64 ++ seed) ≡ 66 = omega (arith, sized) in
    let outer : encoding octet_string (opening implicit_0 64 ++ seed) ≡ opening octet_string 66 ++ (opening implicit_0 64 ++ seed)
    = encoding-sized octet_string 66 (opening implicit_0 64 ++ seed) long in
    ap (λ (xs : List ℕ). front ++ encoding octet_string xs) inner ∙ ap (λ (xs : List ℕ). front ++ xs) outer

-- they are 84 bytes
length-private_contents : (set : Parameters) (seed : List ℕ) → IsSet set → length seed ≡ 64
    → length (encoding integer (0 ∷ []) ++ algorithm_identifier set ++ (opening octet_string 66 ++ (opening implicit_0 64 ++ seed))) ≡ 84
unfolding encoding length_octets
length-private_contents set seed is sized =
    let version : List ℕ = encoding integer (0 ∷ []) in
    omega (
      arith,
      sized,
      length-algorithm_identifier set is,
      length-append (encoding integer (0 ∷ []) ++ algorithm_identifier set) (opening octet_string 66 ++ (opening implicit_0 64 ++ seed)),
      length-append (encoding integer (0 ∷ [])) (algorithm_identifier set),
    )

-- six texts, joined from either end
six : (a b c d e f : List ℕ) → a ++ (b ++ c ++ (d ++ (e ++ f))) ≡ a ++ b ++ c ++ d ++ e ++ f
six a b c d e f = simp append_assoc

-- a private key
pub one_asymmetric_key-parts : (set : Parameters) (seed : List ℕ) → IsSet set → length seed ≡ 64
    → one_asymmetric_key set seed ≡ private_header set ++ seed
unfolding one_asymmetric_key private_header
one_asymmetric_key-parts set seed is sized =
    ap (encoding sequence) (private_contents set seed sized) ∙ encoding-sized sequence 84 _ (length-private_contents set seed is sized)
    ∙ six (opening sequence 84) (encoding integer (0 ∷ [])) (algorithm_identifier set) (opening octet_string 66) (opening implicit_0 64) seed

-- a public key
pub subject_public_key_info-parts : (set : Parameters) (ek : List ℕ) → IsSet set → length ek ≡ set.ek_size
    → subject_public_key_info set ek ≡ public_header set ++ ek
unfolding subject_public_key_info public_header
subject_public_key_info-parts set ek is sized =
    let held : encoding bit_string (0 ∷ ek) ≡ opening bit_string (set.ek_size + 1) ++ 0 ∷ ek =
    encoding-sized bit_string (set.ek_size + 1) (0 ∷ ek) (omega (arith, sized)) in
    let octets : length (length_octets (set.ek_size + 1)) ≡ 3 =
    ap length (length_octets-long (set.ek_size + 1) (omega (arith, long_key set is))) in
    let long : length (algorithm_identifier set ++ (opening bit_string (set.ek_size + 1) ++ 0 ∷ ek)) ≡ set.ek_size + 18 =
    omega (arith, length-append (algorithm_identifier set) (opening bit_string (set.ek_size + 1) ++ 0 ∷ ek), length-append (opening bit_string (set.ek_size + 1)) (0 ∷ ek), length-algorithm_identifier set is) in
    ap (λ (xs : List ℕ). encoding sequence (algorithm_identifier set ++ xs)) held ∙ encoding-sized sequence (set.ek_size + 18) _ long
    ∙ simp append_assoc
