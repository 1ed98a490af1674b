-- The sum of polynomials, one by one.
use Rattle.std.proofs.Common.{◌≡◌, ℕ, ◌+◌, ◌%◌, ◌<◌, ◌≤◌, List, [], ◌∷◌, ◌++◌, length, get_or, take, replicate, slice_index, sum_by, refl, ◌∙◌, sym, ap, ap₂, arith}
use Rattle.std.specs.Simd.Lanes.{zip2}
use Rattle.std.proofs.Math.Nat.{mod-add-mod, zero-mod}
use Rattle.std.proofs.lemmas.List.{ext_get_or, take_all, length-replicate, get_or-replicate}
use Rattle.std.proofs.lemmas.List.FromFn.{length-map-range_with_len, get_or-map-range_with_len}
use Rattle.std.proofs.lemmas.List.Sums.{sum_by_push}
use Rattle.std.proofs.lemmas.Simd.{length-zip2, get_or-zip2}
use Rattle.module_lattice.specs.Ring.{plus, sum}
use Rattle.module_lattice.specs.Vectors.{total}
use Rattle.module_lattice.proofs.Vectors.{pushed}

-- the coefficient at k
coefficient : (q : ℕ) (fs : List (List ℕ)) (k : ℕ) → k < 256 → get_or (total q fs) k 0 ≡ sum_by (λ f. slice_index f k) fs % q
coefficient q fs k within = get_or-map-range_with_len (λ k. sum_by (λ f. slice_index f k) fs % q) 0 256 k k 0 within (omega arith)

-- 256 coefficients
size : (q : ℕ) (fs : List (List ℕ)) → length (total q fs) ≡ 256
size q fs = length-map-range_with_len (λ k. sum_by (λ f. slice_index f k) fs % q) 0 256

-- of no polynomials
pub total-none : (q : ℕ) → replicate 256 0 ≡ total q []
total-none q = let none : List ℕ = replicate 256 0 in let zeros : length none ≡ 256 = length-replicate {A = ℕ} 256 0 in ext_get_or 0 (replicate 256 0) (total q []) (zeros ∙ sym (size q []))
    (λ k within. let below : k < 256 = omega (arith, within, zeros) in
    get_or-replicate 256 k 0 0 below ∙ sym (coefficient q [] k below ∙ zero-mod q))

-- of one more
pub total-push : (q : ℕ) (fs : List (List ℕ)) (f : List ℕ) → length f ≡ 256 → sum q (total q fs) f ≡ total q (fs ++ f ∷ [])
total-push q fs f long =
    let sum_size : length (sum q (total q fs) f) ≡ 256 = length-zip2 (plus q) (total q fs) f (size q fs ∙ sym long) ∙ size q fs in
    ext_get_or 0 (sum q (total q fs) f) (total q (fs ++ f ∷ []))
    (sum_size ∙ sym (size q (fs ++ f ∷ [])))
    (λ k within. let below : k < 256 = omega (arith, within, sum_size) in
    get_or-zip2 (plus q) (total q fs) f k 0 0 0 (rw (size q fs) below) (rw long below)
    ∙ ap (λ c. (c + get_or f k 0) % q) (coefficient q fs k below)
    ∙ mod-add-mod (sum_by (λ f. slice_index f k) fs) q (get_or f k 0)
    ∙ ap (λ n. n % q) (sym (sum_by_push (λ f. slice_index f k) fs f))
    ∙ sym (coefficient q (fs ++ f ∷ []) k below))

-- one product more
pub total_more : (q : ℕ) (fs : List (List ℕ)) (i : ℕ) (before f after : List ℕ) → (i < length fs) × (f ≡ get_or fs i f) → length f ≡ 256
    → before ≡ total q (take i fs) → after ≡ sum q before f → after ≡ total q (take (i + 1) fs)
total_more q fs i before f after at long so_far step =
    step ∙ ap (λ b. sum q b f) so_far ∙ total-push q (take i fs) f long
    ∙ ap (total q) (pushed fs (take i fs) i f at.0 at.1 refl)

-- the products of all items
pub total_all : (q : ℕ) (product : List ℕ → List ℕ → List ℕ) (u u2 v v2 : List (List ℕ)) (i : ℕ) (out : List ℕ) → u ≡ u2 → v ≡ v2
    → length v2 ≡ length u2 → length u2 ≤ i → out ≡ total q (take i (zip2 product u v)) → out ≡ total q (zip2 product u2 v2)
total_all q product u u2 v v2 i out same same2 long all made =
    made ∙ ap₂ (λ a b. total q (take i (zip2 product a b))) same same2
    ∙ ap (total q) (take_all i (zip2 product u2 v2) (rw (length-zip2 product u2 v2 (sym long)) all))
