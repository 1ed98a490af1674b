-- What the key of a seed is made of, and what is encrypted under it.
use Rattle.std.proofs.Common.{◌≡◌, ℕ, zero, suc, ◌+◌, List, ◌∷◌, ◌++◌, Option, None, Some, All, length, take, drop, map, refl, sym, subst, ap, ap₂, ◌∙◌, arith}
use Rattle.std.specs.List.{flat_map, range_with_len}
use Rattle.std.specs.Option.{option_map}
use Rattle.std.proofs.Math.Nat.{mod-lt}
use Rattle.std.proofs.lemmas.List.Elements.{All-cons, All-nil}
use Rattle.std.proofs.lemmas.List.FromFn.{get_or-map-range_with_len, length-map-range_with_len}
use Rattle.std.proofs.lemmas.Option.{none-some, same_Some}
use Rattle.kem_hash.specs.Family.{Family}
use Rattle.module_lattice.specs.Groups.{groups}
use Rattle.module_lattice.specs.Ring.{IsPolynomial, product}
use Rattle.module_lattice.specs.Vectors.{RowsHaveLength, matrix_product, vector_sum}
use Rattle.lattice_transform.specs.Transform.{transform}
use Rattle.ml_kem.specs.Encryption.{compressed, encrypt, encrypted_with}
use Rattle.ml_kem.specs.Keys.{Key, encoded_vector, expanded_seed, key_of, key_with, rho_part, ring_vector, vector_part}
use Rattle.ml_kem.specs.Matrix.{all_or_none, entry, matrix, noise, noise_polynomial, row}
use Rattle.ml_kem.specs.Parameters.{Parameters}
use Rattle.ml_kem.specs.Samples.{cbd, cbd_coefficient}
use Rattle.decryption_noise.specs.Noise.{randomness, unrounded_u, unrounded_v}
use Rattle.decryption_noise.proofs.Parts.{rho-is, vector-is}
use Rattle.decryption_noise.proofs.Vectors.{IsVector, IsVector-matrix_product, IsVector-sum}

-- ---- noise is a vector of polynomials

IsPolynomial-cbd : (eta : ℕ) (bytes : List ℕ) → IsPolynomial 3329 (cbd eta bytes)
unfolding cbd
IsPolynomial-cbd eta bytes =
    let value : ℕ → ℕ = cbd_coefficient eta bytes in
    let long : length (map value (range_with_len 0 256)) ≡ 256 = length-map-range_with_len value 0 256 in
    record {
      size = long;
      each = λ k d within. rw (get_or-map-range_with_len value 0 256 k k d (omega (arith, within, long)) (omega arith)) (mod-lt _ (omega arith));
    }

pub IsPolynomial-noise : (family : Family) (eta : ℕ) (seed : List ℕ) (b : ℕ) → IsPolynomial 3329 (noise_polynomial family eta seed b)
IsPolynomial-noise family eta seed b = IsPolynomial-cbd eta (family.prf_of eta seed b)

values-are : (f : ℕ → List ℕ) (a n : ℕ) → ((i : ℕ) → IsPolynomial 3329 (f i)) → All (IsPolynomial 3329) (map f (range_with_len a n))
values-are f a zero each = All-nil (IsPolynomial 3329)
values-are f a (suc n) each = All-cons (IsPolynomial 3329) (f a) (map f (range_with_len (a + 1) n)) (each a) (values-are f (a + 1) n each)

pub IsVector-noise : (family : Family) (eta : ℕ) (seed : List ℕ) (first count : ℕ) → IsVector count (noise family eta seed first count)
unfolding noise
IsVector-noise family eta seed first count = record {
  count = length-map-range_with_len (noise_polynomial family eta seed) first count;
  each = values-are (noise_polynomial family eta seed) first count (IsPolynomial-noise family eta seed);
}

-- ---- a matrix has k rows of k polynomials

-- the first of values that are all there
first-there : {X : Type 0} (x : X) (o : Option (List X)) (out : List X) → option_map (λ ys. x ∷ ys) o ≡ Some out → (rest : List X) × (o ≡ Some rest) × (x ∷ rest ≡ out)
first-there x None out is = absurd (none-some _ is)
first-there x (Some rest) out is = (rest, refl, same_Some _ _ is)

all-there : {X : Type 0} (P : X → Type 0) (o : Option X) (xs : List (Option X)) (n : ℕ) (out : List X) → ((x : X) → o ≡ Some x → P x)
    → ((rest : List X) → all_or_none xs ≡ Some rest → (length rest ≡ n) × All P rest) → all_or_none (o ∷ xs) ≡ Some out → (length out ≡ suc n) × All P out
all-there P None xs n out here next is = absurd (none-some _ is)
all-there P (Some x) xs n out here next is =
    let parts = first-there x (all_or_none xs) out is in
    let rest = next parts.0 parts.1 in
    subst (λ ys. (length ys ≡ suc n) × All P ys) parts.2 (ap suc rest.0, All-cons P x parts.0 (here x refl) rest.1)

collected : {X : Type 0} (P : X → Type 0) (f : ℕ → Option X) (a n : ℕ) (out : List X) → ((i : ℕ) (x : X) → f i ≡ Some x → P x)
    → all_or_none (map f (range_with_len a n)) ≡ Some out → (length out ≡ n) × All P out
collected P f a zero out each is = subst (λ ys. (length ys ≡ 0) × All P ys) (same_Some _ _ is) (refl, All-nil P)
collected P f a (suc n) out each is =
    all-there P (f a) (map f (range_with_len (a + 1) n)) n out (each a) (λ rest made. collected P f (a + 1) n rest each made) is

pub record IsMatrix (k : ℕ) (a : List (List (List ℕ))) : Type 0 where
  pub count : length a ≡ k
  pub rows : RowsHaveLength k a

matrix-is : (family : Family) (k : ℕ) (rho : List ℕ) (a : List (List (List ℕ))) → matrix family k rho ≡ Some a → IsMatrix k a
unfolding matrix row
matrix-is family k rho a made =
    let all = collected (λ r. length r ≡ k) (row family k rho) 0 k a
    (λ i r is. (collected (λ f. Unit {0}) (entry family rho i) 0 k r (λ j f there. tt) is).0) made in
    record { count = all.0; rows = all.1 }

-- ---- a key

pub record KeyIs (set : Parameters) (family : Family) (key : Key) : Type 0 where
  pub matrix_is : matrix family set.k key.rho ≡ Some key.a
  pub a_is : IsMatrix set.k key.a
  pub s_is : IsVector set.k key.s
  pub e_is : IsVector set.k key.e
  pub t_is : key.t ≡ vector_sum 3329 (matrix_product 3329 (product 3329) key.a key.s) key.e
  pub ek_is : key.ek ≡ flat_map (groups 12) (map transform key.t) ++ key.rho

key-with : (set : Parameters) (family : Family) (rho sigma z : List ℕ) (o : Option (List (List (List ℕ)))) (key : Key) → matrix family set.k rho ≡ o
    → option_map (key_with set family rho sigma z) o ≡ Some key → KeyIs set family key
unfolding key_with encoded_vector
key-with set family rho sigma z None key is made = absurd (none-some _ made)
key-with set family rho sigma z (Some a) key is made =
    subst (KeyIs set family) (same_Some _ _ made) (record {
      matrix_is = is;
      a_is = matrix-is family set.k rho a is;
      s_is = IsVector-noise family set.eta1 sigma 0 set.k;
      e_is = IsVector-noise family set.eta1 sigma set.k set.k;
      t_is = refl;
      ek_is = refl;
    })

pub key-is : (set : Parameters) (family : Family) (seed : List ℕ) (key : Key) → key_of set family seed ≡ Some key → KeyIs set family key
unfolding key_of
key-is set family seed key made =
    let expanded : List ℕ = expanded_seed set family seed in
    key-with set family (take 32 expanded) (drop 32 expanded) (drop 32 seed) (matrix family set.k (take 32 expanded)) key refl made

pub IsVector-t : (set : Parameters) (family : Family) (key : Key) → KeyIs set family key → IsVector set.k key.t
IsVector-t set family key is =
    subst (IsVector set.k) (sym is.t_is)
    (IsVector-sum set.k (matrix_product 3329 (product 3329) key.a key.s) key.e (IsVector-matrix_product set.k key.a key.s is.a_is.count) is.e_is)

-- ---- what is encrypted under a key: u and v, rounded

pub encrypt-is : (set : Parameters) (family : Family) (key : Key) (m r : List ℕ) → KeyIs set family key
    → encrypt set family key.ek m r ≡ Some (flat_map (compressed set.du) (unrounded_u set key (randomness set family r)) ++ compressed set.dv (unrounded_v key (randomness set family r) m))
unfolding encrypt encrypted_with unrounded_u unrounded_v
encrypt-is set family key m r is =
    let t_is : IsVector set.k key.t = IsVector-t set family key is in
    ap (λ (ek : List ℕ). option_map (encrypted_with set family (ring_vector set (vector_part set ek)) m r) (matrix family set.k (rho_part set ek))) is.ek_is
    ∙ ap₂ (λ (t : List (List ℕ)) (o : Option (List (List (List ℕ)))). option_map (encrypted_with set family t m r) o)
    (vector-is set key.t key.rho t_is.count t_is.each)
    (ap (matrix family set.k) (rho-is set key.t key.rho t_is.count) ∙ is.matrix_is)
