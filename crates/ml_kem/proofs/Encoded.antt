-- Encoded vectors.
use Rattle.std.proofs.Common.{◌≡◌, ℕ, zero, suc, ◌+◌, ◌*◌, ◌^◌, ◌<◌, List, [], ◌∷◌, ◌++◌, All, length, take, drop, get_or, refl, sym, ap, ap₂, ◌∙◌, arith, append_assoc, length-append, inl, inr}
use Rattle.std.specs.List.{flat_map}
use Rattle.std.proofs.Math.Seq.{drop-append_seam, take-append_seam}
use Rattle.std.proofs.lemmas.List.{drop-drop}
use Rattle.std.proofs.lemmas.List.Elements.{All-head, All-same, All-tail, All-weaker}
use Rattle.module_lattice.specs.Groups.{groups, ungroup}
use Rattle.module_lattice.specs.Ring.{IsPolynomial}
use Rattle.module_lattice.proofs.Regrouping.{length-regroup, regroup-regroup}
use Rattle.ml_kem.specs.Keys.{IsEncapsulationKey, piece, rho_part}
use Rattle.ml_kem.specs.Parameters.{IsSet, Parameters}

-- the numbers of a polynomial have 12 bits
polynomial-narrow : (f : List ℕ) → IsPolynomial 3329 f → All (λ x. x < 2 ^ 12) f
polynomial-narrow f is = All-weaker (λ x. x < 3329) (λ x. x < 2 ^ 12) (λ x below. omega arith) f is.each

pub polynomials-narrow : (v : List (List ℕ)) → All (IsPolynomial 3329) v → All (λ f. All (λ x. x < 2 ^ 12) f) v
polynomials-narrow v each = All-weaker (IsPolynomial 3329) (λ f. All (λ x. x < 2 ^ 12) f) polynomial-narrow v each

-- a polynomial in 384 bytes
pub length-encoded : (f : List ℕ) → length f ≡ 256 → length (groups 12 f) ≡ 384
unfolding groups
length-encoded f long = length-regroup 12 8 384 f (omega arith) (ap (λ (k : ℕ). 12 * k) long)

pub length-encoded_each : (v : List (List ℕ)) → All (IsPolynomial 3329) v → length (flat_map (groups 12) v) ≡ 384 * length v
length-encoded_each [] each = refl
length-encoded_each (f ∷ v) each =
    let one = All-head (IsPolynomial 3329) f v each in
    length-append (groups 12 f) (flat_map (groups 12) v)
    ∙ ap₂ (λ (a b : ℕ). a + b) (length-encoded f one.size) (length-encoded_each v (All-tail (IsPolynomial 3329) f v each)) ∙ omega arith

-- the piece of one polynomial
piece-encoded : (v : List (List ℕ)) (rest : List ℕ) (i : ℕ) → All (IsPolynomial 3329) v → i < length v
    → piece 384 i (flat_map (groups 12) v ++ rest) ≡ groups 12 (get_or v i [])
piece-encoded [] rest i each within = absurd (omega arith)
piece-encoded (f ∷ v) rest zero each within =
    let first : List ℕ = groups 12 f in
    let others : List ℕ = flat_map (groups 12) v in
    let size : length first ≡ 384 = length-encoded f (All-head (IsPolynomial 3329) f v each).size in
    ap (take 384) (append_assoc first others rest)
    ∙ ap (λ (k : ℕ). take k (first ++ (others ++ rest))) (sym size)
    ∙ take-append_seam first (others ++ rest)
piece-encoded (f ∷ v) rest (suc i) each within =
    let first : List ℕ = groups 12 f in
    let others : List ℕ = flat_map (groups 12) v in
    let start : 384 * suc i ≡ 384 + 384 * i = omega arith in
    let size : length first ≡ 384 = length-encoded f (All-head (IsPolynomial 3329) f v each).size in
    ap (take 384) (ap₂ drop start (append_assoc first others rest) ∙ sym (drop-drop (384 * i) 384 (first ++ (others ++ rest)))
    ∙ ap (drop (384 * i)) (ap (λ (k : ℕ). drop k (first ++ (others ++ rest))) (sym size) ∙ drop-append_seam first (others ++ rest)))
    ∙ piece-encoded v rest i (All-tail (IsPolynomial 3329) f v each) (omega arith)

decoded-encoded : (f : List ℕ) → IsPolynomial 3329 f → ungroup 12 (groups 12 f) ≡ f
unfolding groups ungroup
decoded-encoded f is = regroup-regroup 12 8 384 f (omega arith) (omega arith) (ap (λ (k : ℕ). 12 * k) is.size) (polynomial-narrow f is)

-- the size of an encapsulation key
pub ek_size-is : (set : Parameters) → IsSet set → set.ek_size ≡ 384 * set.k + 32
ek_size-is set is = elim is [
  | inl e ↦ ap (λ (s : Parameters). s.ek_size) e ∙ sym (ap (λ (s : Parameters). 384 * s.k + 32) e)
  | inr rest ↦ elim rest [
    | inl e ↦ ap (λ (s : Parameters). s.ek_size) e ∙ sym (ap (λ (s : Parameters). 384 * s.k + 32) e)
    | inr e ↦ ap (λ (s : Parameters). s.ek_size) e ∙ sym (ap (λ (s : Parameters). 384 * s.k + 32) e)
  ]
]

-- the size of a ciphertext
pub ct_size-is : (set : Parameters) → IsSet set → set.ct_size ≡ 32 * (set.du * set.k + set.dv)
ct_size-is set is = elim is [
  | inl e ↦ ap (λ (s : Parameters). s.ct_size) e ∙ sym (ap (λ (s : Parameters). 32 * (s.du * s.k + s.dv)) e)
  | inr rest ↦ elim rest [
    | inl e ↦ ap (λ (s : Parameters). s.ct_size) e ∙ sym (ap (λ (s : Parameters). 32 * (s.du * s.k + s.dv)) e)
    | inr e ↦ ap (λ (s : Parameters). s.ct_size) e ∙ sym (ap (λ (s : Parameters). 32 * (s.du * s.k + s.dv)) e)
  ]
]

-- the size of an expanded form
pub dk_size-is : (set : Parameters) → IsSet set → 384 * set.k + set.ek_size + 32 + 32 ≡ set.dk_size
dk_size-is set is = elim is [
  | inl e ↦ ap (λ (s : Parameters). 384 * s.k + s.ek_size + 32 + 32) e ∙ sym (ap (λ (s : Parameters). s.dk_size) e)
  | inr rest ↦ elim rest [
    | inl e ↦ ap (λ (s : Parameters). 384 * s.k + s.ek_size + 32 + 32) e ∙ sym (ap (λ (s : Parameters). s.dk_size) e)
    | inr e ↦ ap (λ (s : Parameters). 384 * s.k + s.ek_size + 32 + 32) e ∙ sym (ap (λ (s : Parameters). s.dk_size) e)
  ]
]

-- a vector of transforms and a seed make an encapsulation key
pub encoded-is : (set : Parameters) (v : List (List ℕ)) (rho : List ℕ) → IsSet set → length v ≡ set.k → length rho ≡ 32 → All (IsPolynomial 3329) v
    → IsEncapsulationKey set (flat_map (groups 12) v ++ rho)
encoded-is set v rho is long size each = record {
  size = length-append (flat_map (groups 12) v) rho ∙ ap₂ (λ (a b : ℕ). a + b) (length-encoded_each v each ∙ ap (λ (k : ℕ). 384 * k) long) size ∙ sym (ek_size-is set is);
  reduced = λ i within.
      let inside : i < length v = omega (arith, long, within) in
      let at : IsPolynomial 3329 (get_or v i []) = each i [] inside in
      All-same (λ x. x < 3329) _ _ (ap (ungroup 12) (piece-encoded v rho i each inside) ∙ decoded-encoded (get_or v i []) at) at.each;
}

-- the seed behind the vector part
pub rho-of : (set : Parameters) (v : List (List ℕ)) (rho ek : List ℕ) → All (IsPolynomial 3329) v → length v ≡ set.k → ek ≡ flat_map (groups 12) v ++ rho → rho_part set ek ≡ rho
rho-of set v rho ek each long is =
    let size : 384 * set.k ≡ length (flat_map (groups 12) v) = sym (length-encoded_each v each ∙ ap (λ (k : ℕ). 384 * k) long) in
    ap₂ drop size is ∙ drop-append_seam (flat_map (groups 12) v) rho
