-- The parts of a ciphertext and of an encapsulation key.
use Rattle.std.proofs.Common.{◌≡◌, ℕ, zero, suc, ◌+◌, ◌*◌, ◌^◌, ◌<◌, ◌≤◌, List, [], ◌∷◌, ◌++◌, All, length, take, drop, get_or, map, refl, sym, ap, ap₂, ◌∙◌, append_assoc, length-append, arith}
use Rattle.std.specs.List.{flat_map}
use Rattle.std.proofs.Math.Seq.{drop-append_seam, take-append_seam}
use Rattle.std.proofs.lemmas.List.{drop-drop, get_or-map, length-map}
use Rattle.std.proofs.lemmas.List.Elements.{All-cons, All-head, All-nil, All-tail, All-weaker}
use Rattle.std.proofs.lemmas.List.FromFn.{fill_by_all}
use Rattle.module_lattice.specs.Groups.{decode12, decoded_each, groups}
use Rattle.module_lattice.specs.Ring.{IsPolynomial}
use Rattle.module_lattice.proofs.Regrouping.{length-regroup}
use Rattle.module_lattice.proofs.Units.{decode12-groups}
use Rattle.lattice_transform.specs.Transform.{inverse_transform, transform}
use Rattle.lattice_transform.proofs.Inverse.{inverse-transform}
use Rattle.lattice_transform.proofs.Polynomials.{IsPolynomial-transform}
use Rattle.ml_kem.specs.Encryption.{compressed, decompressed, rounded_u, rounded_v}
use Rattle.ml_kem.specs.Keys.{piece, rho_part, ring_vector, vector_part, decoded_vector}
use Rattle.ml_kem.specs.Parameters.{Parameters}
use Rattle.decryption_noise.specs.Noise.{rounded}
use Rattle.decryption_noise.proofs.Changes.{decompressed-compressed, length-compressed}

-- ---- pieces of one size

pub length-pieces : (size : ℕ) (f : List ℕ → List ℕ) (xs : List (List ℕ)) → All (λ x. length (f x) ≡ size) xs → length (flat_map f xs) ≡ size * length xs
length-pieces size f [] each = omega arith
length-pieces size f (x ∷ xs) each =
    length-append (f x) (flat_map f xs)
    ∙ ap₂ (λ (a b : ℕ). a + b) (All-head (λ y. length (f y) ≡ size) x xs each) (length-pieces size f xs (All-tail (λ y. length (f y) ≡ size) x xs each))
    ∙ omega arith

piece-at : (size : ℕ) (f : List ℕ → List ℕ) (xs : List (List ℕ)) (rest : List ℕ) (i : ℕ) → All (λ x. length (f x) ≡ size) xs → i < length xs
    → piece size i (flat_map f xs ++ rest) ≡ f (get_or xs i [])
piece-at size f [] rest i each within = absurd (omega arith)
piece-at size f (x ∷ xs) rest zero each within =
    let first : List ℕ = f x in
    let others : List ℕ = flat_map f xs in
    let long : size ≡ length first = sym (All-head (λ y. length (f y) ≡ size) x xs each) in
    let start : size * zero ≡ 0 = omega arith in
    ap₂ (λ (k : ℕ) (bytes : List ℕ). take size (drop k bytes)) start (append_assoc first others rest)
    ∙ ap (λ (k : ℕ). take k (first ++ (others ++ rest))) long
    ∙ take-append_seam first (others ++ rest)
piece-at size f (x ∷ xs) rest (suc i) each within =
    let first : List ℕ = f x in
    let others : List ℕ = flat_map f xs in
    let long : size ≡ length first = sym (All-head (λ y. length (f y) ≡ size) x xs each) in
    let start : size * suc i ≡ size + size * i = omega arith in
    ap (take size) (ap₂ drop start (append_assoc first others rest) ∙ sym (drop-drop (size * i) size (first ++ (others ++ rest)))
    ∙ ap (drop (size * i)) (ap (λ (k : ℕ). drop k (first ++ (others ++ rest))) long ∙ drop-append_seam first (others ++ rest)))
    ∙ piece-at size f xs rest i (All-tail (λ y. length (f y) ≡ size) x xs each) (omega arith)

-- ---- a ciphertext

compressed-long : (d : ℕ) (u : List (List ℕ)) → All (IsPolynomial 3329) u → All (λ f. length (compressed d f) ≡ 32 * d) u
compressed-long d u each = All-weaker (IsPolynomial 3329) (λ f. length (compressed d f) ≡ 32 * d) (λ f is. length-compressed d f is.size) u each

pub rounded_u-is : (set : Parameters) (u : List (List ℕ)) (rest : List ℕ) → 1 ≤ set.du → set.du ≤ 11 → length u ≡ set.k → All (IsPolynomial 3329) u
    → rounded_u set (flat_map (compressed set.du) u ++ rest) ≡ map (map (rounded set.du)) u
unfolding rounded_u
rounded_u-is set u rest positive narrow count each =
    let c : List ℕ = flat_map (compressed set.du) u ++ rest in
    let out : List (List ℕ) = map (map (rounded set.du)) u in
    sym (fill_by_all (λ i. decompressed set.du (piece (32 * set.du) i c)) out set.k [] (length-map u (map (rounded set.du)) ∙ count)
    (λ i below.
    let within : i < length u = omega (arith, below, count) in
    get_or-map (map (rounded set.du)) u i [] [] within
    ∙ sym (ap (decompressed set.du) (piece-at (32 * set.du) (compressed set.du) u rest i (compressed-long set.du u each) within)
    ∙ decompressed-compressed set.du (get_or u i []) positive narrow (each i [] within).size)))

pub rounded_v-is : (set : Parameters) (u : List (List ℕ)) (v : List ℕ) → 1 ≤ set.dv → set.dv ≤ 11 → length u ≡ set.k → All (IsPolynomial 3329) u → length v ≡ 256
    → rounded_v set (flat_map (compressed set.du) u ++ compressed set.dv v) ≡ map (rounded set.dv) v
unfolding rounded_v
rounded_v-is set u v positive narrow count each long =
    let first : List ℕ = flat_map (compressed set.du) u in
    let size : 32 * set.du * set.k ≡ length first =
    sym (length-pieces (32 * set.du) (compressed set.du) u (compressed-long set.du u each) ∙ ap (λ (k : ℕ). 32 * set.du * k) count) in
    ap (decompressed set.dv) (ap (λ (k : ℕ). drop k (first ++ compressed set.dv v)) size ∙ drop-append_seam first (compressed set.dv v))
    ∙ decompressed-compressed set.dv v positive narrow long

-- ---- an encapsulation key

length-encoded : (f : List ℕ) → length f ≡ 256 → length (groups 12 f) ≡ 384
unfolding groups
length-encoded f long = length-regroup 12 8 384 f (omega arith) (ap (λ (k : ℕ). 12 * k) long)

length-vector : (v : List (List ℕ)) → All (IsPolynomial 3329) v → length (flat_map (groups 12) v) ≡ 384 * length v
length-vector v each =
    length-pieces 384 (groups 12) v (All-weaker (IsPolynomial 3329) (λ f. length (groups 12 f) ≡ 384) (λ f is. length-encoded f is.size) v each)

decoded-encoded : (v : List (List ℕ)) → All (IsPolynomial 3329) v → decoded_each 3329 12 (length v) (flat_map (groups 12) v) ≡ v
decoded-encoded [] each = refl
decoded-encoded (f ∷ v) each =
    let first : List ℕ = groups 12 f in
    let others : List ℕ = flat_map (groups 12) v in
    let is : IsPolynomial 3329 f = All-head (IsPolynomial 3329) f v each in
    let long : 384 ≡ length first = sym (length-encoded f is.size) in
    ap₂ (λ (g : List ℕ) (w : List (List ℕ)). g ∷ w)
    (ap (decode12 3329) (ap (λ (k : ℕ). take k (first ++ others)) long ∙ take-append_seam first others)
    ∙ decode12-groups 3329 384 f (ap (λ (k : ℕ). 12 * k) is.size) (All-weaker (λ x. x < 3329) (λ x. x < 2 ^ 12) (λ x below. omega arith) f is.each) is.each)
    (ap (decoded_each 3329 12 (length v)) (ap (λ (k : ℕ). drop k (first ++ others)) long ∙ drop-append_seam first others)
    ∙ decoded-encoded v (All-tail (IsPolynomial 3329) f v each))

IsPolynomial-transforms : (v : List (List ℕ)) → All (IsPolynomial 3329) (map transform v)
IsPolynomial-transforms [] = All-nil (IsPolynomial 3329)
IsPolynomial-transforms (f ∷ v) =
    All-cons (IsPolynomial 3329) (transform f) (map transform v) (IsPolynomial-transform f) (IsPolynomial-transforms v)

inverse-transforms : (v : List (List ℕ)) → All (IsPolynomial 3329) v → map inverse_transform (map transform v) ≡ v
inverse-transforms [] each = refl
inverse-transforms (f ∷ v) each =
    ap₂ (λ (g : List ℕ) (w : List (List ℕ)). g ∷ w) (inverse-transform f (All-head (IsPolynomial 3329) f v each))
    (inverse-transforms v (All-tail (IsPolynomial 3329) f v each))

-- the bytes of the vector
length-encoded_vector : (k : ℕ) (t : List (List ℕ)) → length t ≡ k → 384 * k ≡ length (flat_map (groups 12) (map transform t))
length-encoded_vector k t count =
    sym (length-vector (map transform t) (IsPolynomial-transforms t) ∙ ap (λ (n : ℕ). 384 * n) (length-map t transform ∙ count))

pub rho-is : (set : Parameters) (t : List (List ℕ)) (rho : List ℕ) → length t ≡ set.k → rho_part set (flat_map (groups 12) (map transform t) ++ rho) ≡ rho
rho-is set t rho count =
    ap (λ (k : ℕ). drop k (flat_map (groups 12) (map transform t) ++ rho)) (length-encoded_vector set.k t count)
    ∙ drop-append_seam (flat_map (groups 12) (map transform t)) rho

pub vector-is : (set : Parameters) (t : List (List ℕ)) (rho : List ℕ) → length t ≡ set.k → All (IsPolynomial 3329) t
    → ring_vector set (vector_part set (flat_map (groups 12) (map transform t) ++ rho)) ≡ t
unfolding ring_vector decoded_vector
vector-is set t rho count each =
    let transforms : List (List ℕ) = map transform t in
    let bytes : List ℕ = flat_map (groups 12) transforms in
    let long : set.k ≡ length transforms = sym (length-map t transform ∙ count) in
    ap (λ (x : List ℕ). map inverse_transform (decoded_each 3329 12 set.k x))
    (ap (λ (k : ℕ). take k (bytes ++ rho)) (length-encoded_vector set.k t count) ∙ take-append_seam bytes rho)
    ∙ ap (λ (k : ℕ). map inverse_transform (decoded_each 3329 12 k bytes)) long
    ∙ ap (map inverse_transform) (decoded-encoded transforms (IsPolynomial-transforms t))
    ∙ inverse-transforms t each
