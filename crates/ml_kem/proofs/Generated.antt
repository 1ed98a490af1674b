-- What key generation makes.
use Rattle.std.proofs.Common.{◌≡◌, ℕ, ◌++◌, List, All, None, Some, take, drop, map, refl, sym, ap, ap₂, ◌∙◌}
use Rattle.std.specs.List.{flat_map}
use Rattle.std.specs.Option.{option_map}
use Rattle.kem_hash.specs.Family.{Family}
use Rattle.module_lattice.specs.Groups.{groups}
use Rattle.module_lattice.specs.Pairs.{pair_products}
use Rattle.module_lattice.specs.Ring.{IsPolynomial, product}
use Rattle.module_lattice.specs.Vectors.{matrix_product, vector_sum}
use Rattle.ml_kem.specs.Expanded.{SecretKey, key_of_seed}
use Rattle.ml_kem.specs.Keys.{encoded_vector, expanded_seed, key_of, key_with}
use Rattle.ml_kem.specs.Matrix.{matrix, noise}
use Rattle.ml_kem.specs.Parameters.{Parameters}
use Rattle.lattice_transform.specs.Transform.{inverse_transform, transform}
use Rattle.ml_kem.proofs.Domain.{inverse-transforms, transform-matrix_product}
use Rattle.ml_kem.proofs.Taken.{IsPolynomial-noise}

pub key_of-none : (set : Parameters) (family : Family) (seed made : List ℕ) → made ≡ expanded_seed set family seed
    → matrix family set.k (take 32 made) ≡ None → option_map (key_of_seed seed) (key_of set family seed) ≡ None
unfolding key_of
key_of-none set family seed made is none =
    ap (λ (x : List ℕ). option_map (key_of_seed seed) (option_map (key_with set family (take 32 x) (drop 32 x) (drop 32 seed)) (matrix family set.k (take 32 x)))) (sym is)
    ∙ ap (λ o. option_map (key_of_seed seed) (option_map (key_with set family (take 32 made) (drop 32 made) (drop 32 seed)) o)) none

-- the transforms of t and s, for the transforms a of the matrix
pub key_of-some : (set : Parameters) (family : Family) (seed made : List ℕ) (k eta1 : ℕ) (a : List (List (List ℕ))) (s_hat t_hat : List (List ℕ)) (ek z : List ℕ)
    → made ≡ expanded_seed set family seed → set.k ≡ k → set.eta1 ≡ eta1 → matrix family set.k (take 32 made) ≡ Some (map (map inverse_transform) a)
    → All (All (IsPolynomial 3329)) a
    → s_hat ≡ map transform (noise family eta1 (drop 32 made) 0 k)
    → t_hat ≡ vector_sum 3329 (matrix_product 3329 pair_products a s_hat) (map transform (noise family eta1 (drop 32 made) k k))
    → ek ≡ flat_map (groups 12) t_hat ++ take 32 made → z ≡ drop 32 seed
    → option_map (key_of_seed seed) (key_of set family seed) ≡ Some (record { seed = Some seed; s = map inverse_transform s_hat; s_hat = s_hat; ek = ek; z = z })
unfolding key_of key_with encoded_vector
key_of-some set family seed made k eta1 a s_hat t_hat ek z is same_k same_eta some each is_hat is_t is_ek is_z =
    let sigma : List ℕ = drop 32 made in
    let rows : List (List (List ℕ)) = map (map inverse_transform) a in
    let s_of : List (List ℕ) = noise family set.eta1 sigma 0 set.k in
    let e_of : List (List ℕ) = noise family set.eta1 sigma set.k set.k in
    let t_of : List (List ℕ) = vector_sum 3329 (matrix_product 3329 (product 3329) rows s_of) e_of in
    let hat_is : s_hat ≡ map transform s_of = is_hat ∙ ap₂ (λ (e n : ℕ). map transform (noise family e sigma 0 n)) (sym same_eta) (sym same_k) in
    let s_is : map inverse_transform s_hat ≡ s_of =
    ap (map inverse_transform) hat_is ∙ inverse-transforms s_of (IsPolynomial-noise family set.eta1 sigma 0 set.k) in
    let t_is : t_hat ≡ map transform t_of =
    is_t ∙ ap₂ (vector_sum 3329) (ap (matrix_product 3329 pair_products a) hat_is) (ap₂ (λ (e n : ℕ). map transform (noise family e sigma n n)) (sym same_eta) (sym same_k))
    ∙ sym (transform-matrix_product a s_of e_of each (IsPolynomial-noise family set.eta1 sigma set.k set.k)) in
    let ek_is : ek ≡ flat_map (groups 12) (map transform t_of) ++ take 32 made = is_ek ∙ ap (λ (v : List (List ℕ)). flat_map (groups 12) v ++ take 32 made) t_is in
    let whole : SecretKey = record { seed = Some seed; s = s_of; s_hat = map transform s_of; ek = flat_map (groups 12) (map transform t_of) ++ take 32 made; z = drop 32 seed } in
    let made_key : Some whole ≡ Some (record { seed = Some seed; s = map inverse_transform s_hat; s_hat = s_hat; ek = ek; z = z }) = rw (s_is, hat_is, ek_is, is_z) refl in
    ap (λ (x : List ℕ). option_map (key_of_seed seed) (option_map (key_with set family (take 32 x) (drop 32 x) (drop 32 seed)) (matrix family set.k (take 32 x)))) (sym is)
    ∙ ap (λ o. option_map (key_of_seed seed) (option_map (key_with set family (take 32 made) (drop 32 made) (drop 32 seed)) o)) some
    ∙ made_key
