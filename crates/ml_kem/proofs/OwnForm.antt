-- An expanded form is read as the key that it was made of.
use Rattle.std.proofs.Common.{◌≡◌, ℕ, ◌+◌, ◌*◌, ◌^◌, ◌<◌, List, [], ◌∷◌, ◌++◌, All, true, length, take, drop, refl, sym, subst, ap, ap₂, ◌∙◌, arith, append_assoc, length-append, nat_eq}
use Rattle.std.specs.Cmp.{nat_eq_equiv}
use Rattle.std.specs.Cmp.Lexicographic.{lists_equiv, pointwise}
use Rattle.std.specs.List.{flat_map}
use Rattle.std.proofs.Math.Seq.{drop-append_seam, take-append_seam}
use Rattle.std.proofs.lemmas.List.Elements.{All-head, All-tail, All-weaker}
use Rattle.kem_hash.specs.Family.{Family, IsLawful}
use Rattle.module_lattice.specs.Groups.{decode12, decoded_each, groups}
use Rattle.module_lattice.specs.Ring.{IsPolynomial}
use Rattle.module_lattice.proofs.Units.{decode12-groups}
use Rattle.ml_kem.specs.Expanded.{IsExpandedKey, SecretKey, expanded_form, key_of_expanded, public_part, same_key, secret_part, z_part}
use Rattle.ml_kem.specs.Keys.{IsEncapsulationKey, decoded_vector}
use Rattle.ml_kem.specs.Parameters.{IsSet, Parameters}
use Rattle.ml_kem.proofs.Encoded.{dk_size-is, length-encoded, length-encoded_each}

-- lists at their seam
before : (a b : List ℕ) (n : ℕ) → length a ≡ n → take n (a ++ b) ≡ a
before a b n is = ap (λ (k : ℕ). take k (a ++ b)) (sym is) ∙ take-append_seam a b

behind : (a b : List ℕ) (n : ℕ) → length a ≡ n → drop n (a ++ b) ≡ b
behind a b n is = ap (λ (k : ℕ). drop k (a ++ b)) (sym is) ∙ drop-append_seam a b

both-long : (a b : List ℕ) (m n : ℕ) → length a ≡ m → length b ≡ n → length (a ++ b) ≡ m + n
both-long a b m n first second = length-append a b ∙ ap₂ (λ (x y : ℕ). x + y) first second

-- what was encoded is decoded
decoded-own : (v : List (List ℕ)) → All (IsPolynomial 3329) v → decoded_each 3329 12 (length v) (flat_map (groups 12) v) ≡ v
decoded-own [] each = refl
decoded-own (f ∷ v) each =
    let one = All-head (IsPolynomial 3329) f v each in
    let first : List ℕ = groups 12 f in
    let others : List ℕ = flat_map (groups 12) v in
    let size : length first ≡ 384 = length-encoded f one.size in
    ap₂ (λ (g : List ℕ) (w : List (List ℕ)). g ∷ w)
    (ap (decode12 3329) (before first others 384 size)
    ∙ decode12-groups 3329 384 f (ap (λ (k : ℕ). 12 * k) one.size) (All-weaker (λ x. x < 3329) (λ x. x < 2 ^ 12) (λ x below. omega arith) f one.each) one.each)
    (ap (decoded_each 3329 12 (length v)) (behind first others 384 size) ∙ decoded-own v (All-tail (IsPolynomial 3329) f v each))

-- four lists, joined
whole : (a b c d : List ℕ) → a ++ b ++ c ++ d ≡ a ++ (b ++ (c ++ d))
whole a b c d = append_assoc (a ++ b) c d ∙ append_assoc a b (c ++ d)

second-part : (a b c d : List ℕ) (m n : ℕ) → length a ≡ m → length b ≡ n → take n (drop m (a ++ b ++ c ++ d)) ≡ b
second-part a b c d m n first second =
    ap (λ (x : List ℕ). take n (drop m x)) (whole a b c d) ∙ ap (take n) (behind a (b ++ (c ++ d)) m first) ∙ before b (c ++ d) n second

third-part : (a b c d : List ℕ) (m n : ℕ) → length a ≡ m → length b ≡ n → length c ≡ 32 → take 32 (drop (m + n) (a ++ b ++ c ++ d)) ≡ c
third-part a b c d m n first second third =
    ap (λ (x : List ℕ). take 32 (drop (m + n) x)) (append_assoc (a ++ b) c d)
    ∙ ap (take 32) (behind (a ++ b) (c ++ d) (m + n) (both-long a b m n first second)) ∙ before c d 32 third

-- the form is one of those that pass the checks
pub own-form : (set : Parameters) (family : Family) (key : SecretKey) → IsSet set → IsLawful family → length key.s_hat ≡ set.k → All (IsPolynomial 3329) key.s_hat
    → IsEncapsulationKey set key.ek → length key.z ≡ 32 → IsExpandedKey set family (expanded_form family key)
own-form set family key is lawful long each public_is z_long =
    let a : List ℕ = flat_map (groups 12) key.s_hat in
    let h : List ℕ = family.h_of key.ek in
    let first : length a ≡ 384 * set.k = length-encoded_each key.s_hat each ∙ ap (λ (k : ℕ). 384 * k) long in
    let third : length h ≡ 32 = (lawful.h_is key.ek).size in
    let public : public_part set (expanded_form family key) ≡ key.ek = second-part a key.ek h key.z (384 * set.k) set.ek_size first public_is.size in
    record {
      size = both-long (a ++ key.ek ++ h) key.z (384 * set.k + set.ek_size + 32) 32 (both-long (a ++ key.ek) h (384 * set.k + set.ek_size) 32 (both-long a key.ek (384 * set.k) set.ek_size first public_is.size) third) z_long
          ∙ dk_size-is set is;
      public = subst (λ (b : List ℕ). IsEncapsulationKey set b) (sym public) public_is;
      hash = ap family.h_of public ∙ sym (third-part a key.ek h key.z (384 * set.k) set.ek_size first public_is.size third);
    }

same-bytes : (xs ys : List ℕ) → xs ≡ ys → pointwise nat_eq xs ys ≡ true
same-bytes xs ys is = ap (λ (t : List ℕ). pointwise nat_eq t ys) is ∙ (lists_equiv nat_eq_equiv).refl ys

same-vectors : (v w : List (List ℕ)) → v ≡ w → pointwise (pointwise nat_eq) v w ≡ true
same-vectors v w is = ap (λ (t : List (List ℕ)). pointwise (pointwise nat_eq) t w) is ∙ (lists_equiv (lists_equiv nat_eq_equiv)).refl w

-- and the key that it gives equals the first
pub own-equal : (set : Parameters) (family : Family) (key : SecretKey) → IsLawful family → length key.s_hat ≡ set.k → All (IsPolynomial 3329) key.s_hat
    → IsEncapsulationKey set key.ek → length key.z ≡ 32 → same_key (key_of_expanded set (expanded_form family key)) key ≡ true
unfolding decoded_vector
own-equal set family key lawful long each public_is z_long =
    let a : List ℕ = flat_map (groups 12) key.s_hat in
    let h : List ℕ = family.h_of key.ek in
    let form : List ℕ = expanded_form family key in
    let first : length a ≡ 384 * set.k = length-encoded_each key.s_hat each ∙ ap (λ (k : ℕ). 384 * k) long in
    let third : length h ≡ 32 = (lawful.h_is key.ek).size in
    let secret : secret_part set form ≡ a = ap (take (384 * set.k)) (whole a key.ek h key.z) ∙ before a (key.ek ++ (h ++ key.z)) (384 * set.k) first in
    let hat : decoded_each 3329 12 set.k (secret_part set form) ≡ key.s_hat =
    ap₂ (decoded_each 3329 12) (sym long) secret ∙ decoded-own key.s_hat each in
    let public : public_part set form ≡ key.ek = second-part a key.ek h key.z (384 * set.k) set.ek_size first public_is.size in
    let z : z_part set form ≡ key.z =
    behind (a ++ key.ek ++ h) key.z (384 * set.k + set.ek_size + 32) (both-long (a ++ key.ek) h (384 * set.k + set.ek_size) 32 (both-long a key.ek (384 * set.k) set.ek_size first public_is.size) third) in
    rw (same-vectors (decoded_each 3329 12 set.k (secret_part set form)) key.s_hat hat, same-bytes (public_part set form) key.ek public, same-bytes (z_part set form) key.z z) refl
