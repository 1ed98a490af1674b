-- The numbers that a sampler takes.
use Rattle.std.proofs.Common.{◌≡◌, true≢false, ℕ, zero, suc, ◌+◌, ◌*◌, ◌/◌, ◌%◌, ◌<◌, ◌≤◌, Bool, true, inl, inr, Option, List, [], ◌∷◌, ◌++◌, All, Some, None, length, take, drop, get_or, filter, refl, sym, ap, ◌∙◌, arith, append_assoc, append-nil, length-append, take_all, take-add}
use Rattle.std.specs.Prelude.{◌==◌, ◌≢◌, false, nat_lt, if◌then◌else◌}
use Rattle.std.proofs.Math.ListN.{set}
use Rattle.std.proofs.Math.Nat.{mod-lt}
use Rattle.std.proofs.lemmas.Bool.{cases_lt, eq-eqb, le-ltb, lt-ltb, ltb-true}
use Rattle.std.proofs.lemmas.List.{length-take, length-take-le, take-append-drop, take-append-le, take_more, take-set, take_more_set}
use Rattle.std.proofs.lemmas.List.FromFn.{fill_by_all, length-map-range_with_len}
use Rattle.ml_kem.proofs.Ranges.{All-values}
use Rattle.std.proofs.lemmas.List.Elements.{All-map, All-same, All-take, All-weaker, filter-append, filter_passes}
use Rattle.kem_hash.specs.Family.{Family}
use Rattle.module_lattice.specs.Ring.{IsPolynomial}
use Rattle.std.specs.List.{range_with_len}
use Rattle.ml_kem.specs.Matrix.{noise, noise_polynomial}
use Rattle.ml_kem.specs.Samples.{accepted, candidates, cbd, cbd_coefficient, sample}

-- bytes that three divides, and others behind them
pub candidates-append : (m : ℕ) (xs ys : List ℕ) → length xs ≡ 3 * m → candidates (xs ++ ys) ≡ candidates xs ++ candidates ys
candidates-append zero [] ys whole = refl
candidates-append zero (x ∷ xs) ys whole = absurd (omega arith)
candidates-append (suc m) [] ys whole = absurd (omega arith)
candidates-append (suc m) (x ∷ []) ys whole = absurd (omega arith)
candidates-append (suc m) (x ∷ y ∷ []) ys whole = absurd (omega arith)
candidates-append (suc m) (x ∷ y ∷ z ∷ xs) ys whole =
    ap (λ (t : List ℕ). (x + 256 * (y % 16)) ∷ (y / 16 + 16 * z) ∷ t) (candidates-append m xs ys (omega arith))

pub accepted-append : (m : ℕ) (xs ys : List ℕ) → length xs ≡ 3 * m → accepted (xs ++ ys) ≡ accepted xs ++ accepted ys
accepted-append m xs ys whole =
    ap (filter (λ d. nat_lt d 3329)) (candidates-append m xs ys whole) ∙ filter-append (λ d. nat_lt d 3329) (candidates xs) (candidates ys)

-- what is taken of a list that was cut before
pub take-take-append : (n : ℕ) (xs ys : List ℕ) → take n (take n xs ++ ys) ≡ take n (xs ++ ys)
take-take-append zero xs ys = refl
take-take-append (suc n) [] ys = refl
take-take-append (suc n) (x ∷ xs) ys = ap (λ (t : List ℕ). x ∷ t) (take-take-append n xs ys)

-- one number, taken or left
below-yes : (d : ℕ) → d < 3329 → filter (λ x. nat_lt x 3329) (d ∷ []) ≡ d ∷ []
below-yes d small = ap (λ (t : Bool). if t then d ∷ [] else []) (lt-ltb d 3329 small)

below-no : (d : ℕ) → 3329 ≤ d → filter (λ x. nat_lt x 3329) (d ∷ []) ≡ []
below-no d large = ap (λ (t : Bool). if t then d ∷ [] else []) (le-ltb d 3329 large)

pub number-taken : (values : List ℕ) (count d : ℕ) → count < length values → count < 256 → d < 3329
    → take (count + 1) (set values count d) ≡ take 256 (take count values ++ filter (λ x. nat_lt x 3329) (d ∷ []))
number-taken values count d inside room small =
    let before : length (take count values) ≡ count = length-take-le count values (omega arith) in
    take_more_set values count d inside
    ∙ sym (take_all 256 (take count values ++ d ∷ []) (omega (arith, length-append (take count values) (d ∷ []), before)))
    ∙ ap (λ (t : List ℕ). take 256 (take count values ++ t)) (sym (below-yes d small))

pub number-left : (xs : List ℕ) (d : ℕ) → length xs ≤ 256 → 3329 ≤ d → xs ≡ take 256 (xs ++ filter (λ x. nat_lt x 3329) (d ∷ []))
number-left xs d within large =
    sym (ap (take 256) (ap (λ (t : List ℕ). xs ++ t) (below-no d large) ∙ append-nil xs) ∙ take_all 256 xs within)

-- a 0 behind those that were taken
pub number-passed : (values : List ℕ) (count d : ℕ) → count ≤ 256 → 3329 ≤ d
    → take (count + 0) (set values count 0) ≡ take 256 (take count values ++ filter (λ x. nat_lt x 3329) (d ∷ []))
number-passed values count d within large =
    let same : count + 0 ≡ count = omega arith in
    ap (λ (n : ℕ). take n (set values count 0)) same ∙ take-set values count 0
    ∙ number-left (take count values) d (omega (arith, within, length-take count values)) large

pub full-left : (xs ys : List ℕ) → length xs ≡ 256 → xs ≡ take 256 (xs ++ ys)
full-left xs ys full = sym (take-append-le 256 xs ys (omega arith) ∙ take_all 256 xs (omega arith))

-- the two numbers of three bytes
pub three-taken : (old : List ℕ) (b0 b1 b2 : ℕ) (first second : List ℕ)
    → first ≡ take 256 (old ++ filter (λ x. nat_lt x 3329) ((b0 + 256 * (b1 % 16)) ∷ []))
    → second ≡ take 256 (first ++ filter (λ x. nat_lt x 3329) ((b1 / 16 + 16 * b2) ∷ []))
    → second ≡ take 256 (old ++ accepted (b0 ∷ b1 ∷ b2 ∷ []))
three-taken old b0 b1 b2 first second one two =
    let p : ℕ → Bool = λ x. nat_lt x 3329 in
    let d1 : List ℕ = (b0 + 256 * (b1 % 16)) ∷ [] in
    let d2 : List ℕ = (b1 / 16 + 16 * b2) ∷ [] in
    two ∙ ap (λ (t : List ℕ). take 256 (t ++ filter p d2)) one
    ∙ take-take-append 256 (old ++ filter p d1) (filter p d2)
    ∙ ap (take 256) (append_assoc old (filter p d1) (filter p d2) ∙ ap (λ (t : List ℕ). old ++ t) (sym (filter-append p d1 d2)))

-- three bytes more of a block
three-more : (block : List ℕ) (t : ℕ) → 3 * t + 2 < length block
    → take (3 * (t + 1)) block ≡ take (3 * t) block ++ get_or block (3 * t) 0 ∷ get_or block (3 * t + 1) 0 ∷ get_or block (3 * t + 2) 0 ∷ []
three-more block t inside =
    let x : ℕ = get_or block (3 * t) 0 in
    let y : ℕ = get_or block (3 * t + 1) 0 in
    let z : ℕ = get_or block (3 * t + 2) 0 in
    let end : 3 * (t + 1) ≡ 3 * t + 2 + 1 = omega arith in
    let second : 3 * t + 2 ≡ 3 * t + 1 + 1 = omega arith in
    ap (λ (k : ℕ). take k block) end ∙ take_more block (3 * t + 2) 0 inside
    ∙ ap (λ (s : List ℕ). s ++ z ∷ []) (ap (λ (k : ℕ). take k block) second ∙ take_more block (3 * t + 1) 0 (omega arith)
    ∙ ap (λ (s : List ℕ). s ++ y ∷ []) (take_more block (3 * t) 0 (omega arith)))
    ∙ append_assoc (take (3 * t) block ++ x ∷ []) (y ∷ []) (z ∷ []) ∙ append_assoc (take (3 * t) block) (x ∷ []) (y ∷ z ∷ [])

pub block-more : (old block before after : List ℕ) (t : ℕ) → 3 * t + 2 < length block
    → before ≡ take 256 (old ++ accepted (take (3 * t) block))
    → after ≡ take 256 (before ++ accepted (get_or block (3 * t) 0 ∷ get_or block (3 * t + 1) 0 ∷ get_or block (3 * t + 2) 0 ∷ []))
    → after ≡ take 256 (old ++ accepted (take (3 * (t + 1)) block))
block-more old block before after t inside is more =
    let first : List ℕ = take (3 * t) block in
    let three : List ℕ = get_or block (3 * t) 0 ∷ get_or block (3 * t + 1) 0 ∷ get_or block (3 * t + 2) 0 ∷ [] in
    more ∙ ap (λ (s : List ℕ). take 256 (s ++ accepted three)) is
    ∙ take-take-append 256 (old ++ accepted first) (accepted three)
    ∙ ap (take 256) (append_assoc old (accepted first) (accepted three) ∙ ap (λ (s : List ℕ). old ++ s)
    (sym (accepted-append t first three (length-take-le (3 * t) block (omega arith))) ∙ ap accepted (sym (three-more block t inside))))

pub block-none : (old block : List ℕ) → length old ≤ 256 → old ≡ take 256 (old ++ accepted (take (3 * 0) block))
block-none old block within = sym (ap (take 256) (append-nil old) ∙ take_all 256 old within)

pub block-all : (old block out : List ℕ) (t : ℕ) → length block ≤ 3 * t → out ≡ take 256 (old ++ accepted (take (3 * t) block)) → out ≡ take 256 (old ++ accepted block)
block-all old block out t all made = made ∙ ap (λ (s : List ℕ). take 256 (old ++ accepted s)) (take_all (3 * t) block all)

-- block n of an output of XOF
pub output-more : (x before after : List ℕ) (n : ℕ) → length x ≡ 2688 → n < 16
    → before ≡ take 256 (accepted (take (168 * n) x)) → after ≡ take 256 (before ++ accepted (take 168 (drop (168 * n) x)))
    → after ≡ take 256 (accepted (take (168 * (n + 1)) x))
output-more x before after n long inside is more =
    let first : List ℕ = take (168 * n) x in
    let block : List ℕ = take 168 (drop (168 * n) x) in
    let whole : length first ≡ 3 * (56 * n) = length-take-le (168 * n) x (omega arith) ∙ omega arith in
    let end : 168 * (n + 1) ≡ 168 * n + 168 = omega arith in
    more ∙ ap (λ (s : List ℕ). take 256 (s ++ accepted block)) is
    ∙ take-take-append 256 (accepted first) (accepted block)
    ∙ ap (take 256) (sym (accepted-append (56 * n) first block whole) ∙ ap accepted (sym (ap (λ (k : ℕ). take k x) end ∙ take-add (168 * n) 168 x)))

-- what was taken and is not full has fewer numbers
pub not-full : (s xs : List ℕ) → s ≡ take 256 xs → (length s == 256) ≡ false → length s < 256
not-full s xs taken some =
    let other : length s ≢ 256 = λ full. true≢false (sym (eq-eqb (length s) 256 full) ∙ some) in
    omega (arith, other, ap length taken, length-take 256 xs)

-- the sample, where enough of the output was taken
pub sample-full : (x s : List ℕ) (n : ℕ) → length x ≡ 2688 → n ≤ 16 → s ≡ take 256 (accepted (take (168 * n) x)) → length s ≡ 256 → sample x ≡ Some s
unfolding sample
sample-full x s n long within taken full =
    let first : List ℕ = take (168 * n) x in
    let rest : List ℕ = drop (168 * n) x in
    let whole : length first ≡ 3 * (56 * n) = length-take-le (168 * n) x (omega arith) ∙ omega arith in
    let parts : accepted x ≡ accepted first ++ accepted rest =
    ap accepted (sym (take-append-drop (168 * n) x)) ∙ accepted-append (56 * n) first rest whole in
    let enough : 256 ≤ length (accepted first) = omega (arith, full, ap length taken, length-take 256 (accepted first)) in
    let many : 256 ≤ length (accepted x) = omega (arith, enough, ap length parts, length-append (accepted first) (accepted rest)) in
    ap (λ (t : Bool). if t then None else Some (take 256 (accepted x))) (le-ltb (length (accepted x)) 256 many)
    ∙ ap Some (ap (take 256) parts ∙ take-append-le 256 (accepted first) (accepted rest) enough ∙ sym taken)

-- no sample, where all of the output was taken
pub sample-none : (x s : List ℕ) (n : ℕ) → length x ≡ 2688 → 16 ≤ n → s ≡ take 256 (accepted (take (168 * n) x)) → length s < 256 → sample x ≡ None
unfolding sample
sample-none x s n long all taken few =
    let whole : take (168 * n) x ≡ x = take_all (168 * n) x (omega arith) in
    let fewer : length (accepted x) < 256 =
    omega (arith, few, ap length taken, ap (λ (t : List ℕ). length (take 256 (accepted t))) whole, length-take 256 (accepted x)) in
    ap (λ (t : Bool). if t then None else Some (take 256 (accepted x))) (lt-ltb (length (accepted x)) 256 fewer)

-- noise
pub cbd-filled : (eta : ℕ) (bytes out : List ℕ) → length out ≡ 256 → ((k : ℕ) → k < 256 → get_or out k 0 ≡ cbd_coefficient eta bytes k) → out ≡ cbd eta bytes
unfolding cbd
cbd-filled eta bytes out long at = fill_by_all (cbd_coefficient eta bytes) out 256 0 long at

pub All-cbd : (eta : ℕ) (bytes : List ℕ) → All (λ x. x < 3329) (cbd eta bytes)
unfolding cbd
All-cbd eta bytes = All-values (cbd_coefficient eta bytes) 3329 0 256 (λ i. mod-lt _ (omega arith))

pub IsPolynomial-cbd : (eta : ℕ) (bytes : List ℕ) → IsPolynomial 3329 (cbd eta bytes)
unfolding cbd
IsPolynomial-cbd eta bytes = record { size = length-map-range_with_len (cbd_coefficient eta bytes) 0 256; each = All-cbd eta bytes }

pub IsPolynomial-noise : (family : Family) (eta : ℕ) (seed : List ℕ) (first count : ℕ) → All (IsPolynomial 3329) (noise family eta seed first count)
unfolding noise
IsPolynomial-noise family eta seed first count =
    All-map (IsPolynomial 3329) (noise_polynomial family eta seed) (range_with_len first count) (λ k d within. IsPolynomial-cbd eta (family.prf_of eta seed (get_or (range_with_len first count) k d)))

-- a sample is 256 numbers below q
pub IsPolynomial-sample : (x f : List ℕ) → sample x ≡ Some f → IsPolynomial 3329 f
unfolding sample
IsPolynomial-sample x f is =
    let p : ℕ → Bool = λ d. nat_lt d 3329 in
    let cut : Bool → Option (List ℕ) = λ t. if t then None else Some (take 256 (accepted x)) in
    elim (cases_lt (length (accepted x)) 256) [
      | inl few ↦
          let none : None ≡ Some f = sym (ap cut (lt-ltb (length (accepted x)) 256 few)) ∙ is in
          absurd (cc)
      | inr many ↦
          let found : Some (take 256 (accepted x)) ≡ Some f = sym (ap cut (le-ltb (length (accepted x)) 256 many)) ∙ is in
          let same : f ≡ take 256 (accepted x) = cc in
          record {
            size = ap length same ∙ length-take-le 256 (accepted x) many;
            each = All-same (λ d. d < 3329) f (take 256 (accepted x)) same (All-take (λ d. d < 3329) 256 (accepted x)
                (All-weaker (λ d. p d ≡ true) (λ d. d < 3329) (λ d passes. ltb-true d 3329 passes) (accepted x) (filter_passes p (candidates x))));
          }
    ]
