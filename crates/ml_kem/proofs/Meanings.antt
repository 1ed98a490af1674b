-- Answers to meanings that are made of others.
use Rattle.std.proofs.Common.{◌≡◌, ◌≢◌, refl, Result, ℕ, ◌-◌, ◌*◌, ◌++◌, List, Option, None, Some, Err, All, ◌+◌, length, take, drop, map, ap, ap₂, ◌∙◌, sym, subst, arith, take_all, length-drop}
use Rattle.std.specs.List.{flat_map, range_with_len}
use Rattle.std.specs.Option.{option_map}
use Rattle.kem_hash.specs.Family.{Family}
use Rattle.ml_kem.specs.Answers.{Answers}
use Rattle.module_lattice.specs.Groups.{decoded_each}
use Rattle.module_lattice.specs.Pairs.{pair_products}
use Rattle.module_lattice.specs.Ring.{IsPolynomial, difference, product, sum}
use Rattle.module_lattice.specs.Vectors.{RowsHaveLength, dot_product, matrix_product, vector_sum}
use Rattle.ml_kem.specs.Encapsulation.{chosen_key, decaps, encaps, key_and_coins}
use Rattle.ml_kem.specs.Encryption.{compressed, decompressed, decrypt, encrypt, encrypted_with, rounded_u, rounded_v}
use Rattle.ml_kem.specs.Expanded.{SecretKey, key_of_expanded, public_part, secret_part, z_part}
use Rattle.ml_kem.specs.Keys.{decoded_vector, piece, rho_part, ring_vector, vector_part}
use Rattle.ml_kem.specs.private.Kept.{IsMatrix}
use Rattle.ml_kem.specs.Matrix.{column, matrix, noise, noise_polynomial, transposed}
use Rattle.ml_kem.specs.Parameters.{Parameters}
use Rattle.lattice_transform.specs.Transform.{inverse_transform, transform}
use Rattle.ml_kem.proofs.Domain.{inverse-dot_product, transposed-product}
use Rattle.ml_kem.specs.declared.error.KemError.{KemError}
use Rattle.ml_kem.specs.declared.error.KemError.TheVariants.{NoMemory, XofExhausted}

-- a refusal is passed on, where a meaning is none if the other is
pub refused : {X Y Z W : Type 0} (view : X → Y) (other : Z → W) (e : KemError) (o : Option Y) (p : Option W)
    → Answers view (Err e) o → (o ≡ None → p ≡ None) → Answers other (Err e) p
refused view other XofExhausted o p answers follows = follows answers
refused view other NoMemory o p answers follows = tt

pub encrypt-none : (set : Parameters) (family : Family) (ek m r : List ℕ) → matrix family set.k (rho_part set ek) ≡ None → encrypt set family ek m r ≡ None
unfolding encrypt
encrypt-none set family ek m r none = ap (option_map (encrypted_with set family (ring_vector set (vector_part set ek)) m r)) none

pub encrypt-some : (set : Parameters) (family : Family) (ek m r c : List ℕ) (rows : List (List (List ℕ))) (t : List (List ℕ))
    → matrix family set.k (rho_part set ek) ≡ Some rows → t ≡ ring_vector set (vector_part set ek) → c ≡ encrypted_with set family t m r rows
    → encrypt set family ek m r ≡ Some c
unfolding encrypt
encrypt-some set family ek m r c rows t some is made =
    ap (option_map (encrypted_with set family (ring_vector set (vector_part set ek)) m r)) some
    ∙ ap Some (ap (λ (s : List (List ℕ)). encrypted_with set family s m r rows) (sym is) ∙ sym made)

-- the matrix of a seed by another name
pub IsMatrix-same : (family : Family) (k l : ℕ) (rho other : List ℕ) (a : List (List (List ℕ))) → k ≡ l → rho ≡ other → IsMatrix family k rho a → IsMatrix family l other a
IsMatrix-same family k l rho other a same_k same_rho is =
    subst (λ (n : ℕ). IsMatrix family n other a) same_k (subst (λ (x : List ℕ). IsMatrix family k x a) same_rho is)

-- what a slice from a place on holds
pub rest-of : (n : ℕ) (xs : List ℕ) → take (length xs - n) (drop n xs) ≡ drop n xs
rest-of n xs = take_all (length xs - n) (drop n xs) (omega (arith, length-drop n xs))

pub ring_vector-read : (set : Parameters) (k : ℕ) (bytes : List ℕ) (transforms : List (List ℕ)) → set.k ≡ k
    → transforms ≡ decoded_each 3329 12 k bytes → map inverse_transform transforms ≡ ring_vector set bytes
unfolding decoded_vector ring_vector
ring_vector-read set k bytes transforms same are =
    ap (map inverse_transform) (are ∙ ap (λ (n : ℕ). decoded_each 3329 12 n bytes) (sym same))

-- what is decrypted under the transforms of s
pub decrypt-made : (set : Parameters) (k du dv : ℕ) (s_hat u_hat : List (List ℕ)) (c v d x m : List ℕ) → set.k ≡ k → set.du ≡ du → set.dv ≡ dv
    → All (IsPolynomial 3329) s_hat
    → u_hat ≡ map transform (map (λ i. decompressed du (piece (32 * du) i c)) (range_with_len 0 k)) → v ≡ decompressed dv (drop (32 * du * k) c)
    → d ≡ inverse_transform (dot_product 3329 pair_products s_hat u_hat) → x ≡ difference 3329 v d → m ≡ compressed 1 x
    → m ≡ decrypt set (map inverse_transform s_hat) c
unfolding decrypt rounded_u rounded_v
decrypt-made set k du dv s_hat u_hat c v d x m ek edu edv each is_u is_v is_d is_x is_m =
    let u : List (List ℕ) = map (λ i. decompressed set.du (piece (32 * set.du) i c)) (range_with_len 0 set.k) in
    let first : u_hat ≡ map transform u =
    is_u ∙ ap₂ (λ (b n : ℕ). map transform (map (λ i. decompressed b (piece (32 * b) i c)) (range_with_len 0 n))) (sym edu) (sym ek) in
    let start : 32 * du * k ≡ 32 * set.du * set.k = ap₂ (λ (b n : ℕ). 32 * b * n) (sym edu) (sym ek) in
    let second : v ≡ decompressed set.dv (drop (32 * set.du * set.k) c) = is_v ∙ ap₂ (λ (b n : ℕ). decompressed b (drop n c)) (sym edv) start in
    let third : d ≡ dot_product 3329 (product 3329) (map inverse_transform s_hat) u =
    is_d ∙ ap (λ (w : List (List ℕ)). inverse_transform (dot_product 3329 pair_products s_hat w)) first ∙ inverse-dot_product s_hat u each in
    is_m ∙ ap (compressed 1) (is_x ∙ ap₂ (difference 3329) second third)

-- what is encrypted under the transforms of t and A
pub encrypted-made : (set : Parameters) (family : Family) (k eta1 eta2 du dv ek ct dk : ℕ) (t_hat y_hat u : List (List ℕ)) (m r v c : List ℕ) (a : List (List (List ℕ)))
    → set ≡ record { k = k; eta1 = eta1; eta2 = eta2; du = du; dv = dv; ek_size = ek; ct_size = ct; dk_size = dk }
    → RowsHaveLength k a → All (All (IsPolynomial 3329)) a → All (IsPolynomial 3329) t_hat
    → y_hat ≡ map transform (noise family eta1 r 0 k)
    → u ≡ map (λ i. sum 3329 (inverse_transform (dot_product 3329 pair_products (column a i) y_hat)) (noise_polynomial family eta2 r (k + i))) (range_with_len 0 k)
    → v ≡ sum 3329 (sum 3329 (inverse_transform (dot_product 3329 pair_products t_hat y_hat)) (noise_polynomial family eta2 r (2 * k))) (decompressed 1 m)
    → c ≡ flat_map (compressed du) u ++ compressed dv v
    → c ≡ encrypted_with set family (map inverse_transform t_hat) m r (map (map inverse_transform) a)
unfolding encrypted_with
encrypted-made set family k eta1 eta2 du dv ek ct dk t_hat y_hat u m r v c a same rows each t_each is_y is_u is_v is_c =
    let y : List (List ℕ) = noise family eta1 r 0 k in
    let t : List (List ℕ) = map inverse_transform t_hat in
    let e2 : List ℕ = noise_polynomial family eta2 r (2 * k) in
    let at : List (List ℕ) → ℕ → List ℕ =
    λ w i. sum 3329 (inverse_transform (dot_product 3329 pair_products (column a i) w)) (noise_polynomial family eta2 r (k + i)) in
    let u_is : u ≡ vector_sum 3329 (matrix_product 3329 (product 3329) (transposed k (map (map inverse_transform) a)) y) (noise family eta2 r k k) =
    is_u ∙ ap (λ (w : List (List ℕ)). map (at w) (range_with_len 0 k)) is_y ∙ transposed-product family eta2 k r a y rows each in
    let dot_is : inverse_transform (dot_product 3329 pair_products t_hat y_hat) ≡ dot_product 3329 (product 3329) t y =
    ap (λ (w : List (List ℕ)). inverse_transform (dot_product 3329 pair_products t_hat w)) is_y ∙ inverse-dot_product t_hat y t_each in
    let v_is : v ≡ sum 3329 (sum 3329 (dot_product 3329 (product 3329) t y) e2) (decompressed 1 m) =
    is_v ∙ ap (λ (d : List ℕ). sum 3329 (sum 3329 d e2) (decompressed 1 m)) dot_is in
    rw same (is_c ∙ ap₂ (λ (b : List (List ℕ)) (d : List ℕ). flat_map (compressed du) b ++ compressed dv d) u_is v_is)

pub encaps-none : (set : Parameters) (family : Family) (ek m made : List ℕ) → made ≡ key_and_coins family ek m
    → encrypt set family ek m (drop 32 made) ≡ None → encaps set family ek m ≡ None
unfolding encaps
encaps-none set family ek m made is none =
    ap (λ (x : List ℕ). option_map (λ c. (c, take 32 x)) (encrypt set family ek m (drop 32 x))) (sym is)
    ∙ ap (option_map (λ c. (c, take 32 made))) none

pub encaps-some : (set : Parameters) (family : Family) (ek m made c : List ℕ) → made ≡ key_and_coins family ek m
    → encrypt set family ek m (drop 32 made) ≡ Some c → encaps set family ek m ≡ Some (c, take 32 made)
unfolding encaps
encaps-some set family ek m made c is some =
    ap (λ (x : List ℕ). option_map (λ c. (c, take 32 x)) (encrypt set family ek m (drop 32 x))) (sym is)
    ∙ ap (option_map (λ c. (c, take 32 made))) some

-- what is decapsulated, by the message and what G gives of it
decaps-by : (set : Parameters) (family : Family) (s : List (List ℕ)) (ek z c m made : List ℕ) → m ≡ decrypt set s c → made ≡ key_and_coins family ek m
    → decaps set family s ek z c ≡ option_map (chosen_key family (take 32 made) z c) (encrypt set family ek m (drop 32 made))
unfolding decaps
decaps-by set family s ek z c m made is_m is_made =
    ap (λ (x : List ℕ). option_map (chosen_key family (take 32 (key_and_coins family ek x)) z c) (encrypt set family ek x (drop 32 (key_and_coins family ek x)))) (sym is_m)
    ∙ ap (λ (x : List ℕ). option_map (chosen_key family (take 32 x) z c) (encrypt set family ek m (drop 32 x))) (sym is_made)

pub decaps-none : (set : Parameters) (family : Family) (s : List (List ℕ)) (ek z c m made : List ℕ) → m ≡ decrypt set s c → made ≡ key_and_coins family ek m
    → encrypt set family ek m (drop 32 made) ≡ None → decaps set family s ek z c ≡ None
decaps-none set family s ek z c m made is_m is_made none =
    decaps-by set family s ek z c m made is_m is_made ∙ ap (option_map (chosen_key family (take 32 made) z c)) none

pub decaps-some : (set : Parameters) (family : Family) (s : List (List ℕ)) (ek z c m made again key : List ℕ) → m ≡ decrypt set s c → made ≡ key_and_coins family ek m
    → encrypt set family ek m (drop 32 made) ≡ Some again → key ≡ chosen_key family (take 32 made) z c again → decaps set family s ek z c ≡ Some key
decaps-some set family s ek z c m made again key is_m is_made some is_key =
    decaps-by set family s ek z c m made is_m is_made ∙ ap (option_map (chosen_key family (take 32 made) z c)) some ∙ ap Some (sym is_key)

-- encryption refuses where the matrix is none alone
pub mapped-none : {X Y : Type 0} (f : X → Y) (o : Option X) → option_map f o ≡ None → o ≡ None
mapped-none f None is = refl
mapped-none f (Some x) is = absurd (cc)

pub encrypt-none-from : (set : Parameters) (family : Family) (ek m r : List ℕ) → encrypt set family ek m r ≡ None → matrix family set.k (rho_part set ek) ≡ None
unfolding encrypt
encrypt-none-from set family ek m r is =
    mapped-none (encrypted_with set family (ring_vector set (vector_part set ek)) m r) (matrix family set.k (rho_part set ek)) is

pub not-exhausted : {X Y : Type 0} (view : X → Y) (e : KemError) (o : Option Y) → Answers view (Err e) o → o ≢ None → e ≢ XofExhausted
not-exhausted view XofExhausted o answers some same = some answers
not-exhausted view NoMemory o answers some same = cc

pub same-error : {X : Type 0} (d e : KemError) → (let r : Result X KemError = Err d in r) ≡ Err e → d ≡ e
same-error d e same = cc

-- what an expanded form is read as
pub expanded-read : (set : Parameters) (k : ℕ) (bytes secret : List ℕ) (s_hat : List (List ℕ)) (ek z : List ℕ) → set.k ≡ k → secret ≡ secret_part set bytes
    → s_hat ≡ decoded_each 3329 12 k secret → ek ≡ public_part set bytes → z ≡ z_part set bytes
    → (let key : SecretKey = record { seed = None; s = map inverse_transform s_hat; s_hat = s_hat; ek = ek; z = z } in key) ≡ key_of_expanded set bytes
unfolding decoded_vector ring_vector
expanded-read set k bytes secret s_hat ek z same is_secret is_hat is_ek is_z =
    let hat : s_hat ≡ decoded_each 3329 12 set.k (secret_part set bytes) = is_hat ∙ ap₂ (decoded_each 3329 12) (sym same) is_secret in
    rw (hat, is_ek, is_z) refl
