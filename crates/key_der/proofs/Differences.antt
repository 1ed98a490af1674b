-- Where two texts differ, and where a text leaves a shape.
use Rattle.std.proofs.Common.{◌≡◌, ◌≢◌, ℕ, suc, ◌+◌, ◌<◌, ◌≤◌, inl, inr, List, [], ◌∷◌, ◌++◌, length, get_or, drop, refl, ap, sym, ◌∙◌, cond, arith, Option, None, Some, min, length-append, length-drop, add-one}
use Rattle.std.proofs.Math.Seq.{drop-cons}
use Rattle.std.proofs.lemmas.Bool.{cases_lt, eq-eqb, ne_eqb}
use Rattle.std.proofs.lemmas.Bool.Decides.{eqb_tells}
use Rattle.std.proofs.lemmas.List.{drop_all}
use Rattle.std.specs.Option.{option_map, option_or}
use Rattle.key_der.specs.Reading.{first_difference, mismatch, shorter}

-- two texts that begin with one byte differ where their rests do
pub first_difference-same : (a b : ℕ) (header text : List ℕ) → a ≡ b
    → first_difference (a ∷ header) (b ∷ text) ≡ option_map (λ place. place + 1) (first_difference header text)
first_difference-same a b header text same =
    ap (λ test. cond test (option_map (λ (place : ℕ). place + 1) (first_difference header text)) (Some 0)) (eq-eqb a b same)

-- and two that begin with two bytes at once
pub first_difference-other : (a b : ℕ) (header text : List ℕ) → a ≢ b → first_difference (a ∷ header) (b ∷ text) ≡ Some 0
first_difference-other a b header text other =
    ap (λ test. cond test (option_map (λ (place : ℕ). place + 1) (first_difference header text)) (Some 0)) (ne_eqb a b other)

-- a place is counted from further on
counted : (i : ℕ) (place : Option ℕ) → option_map (λ p. i + p) (option_map (λ p. p + 1) place) ≡ option_map (λ p. i + 1 + p) place
counted i None = refl
counted i (Some p) = let e : i + (p + 1) ≡ i + 1 + p = omega arith in ap (λ (n : ℕ). Some n) e

-- one byte more that is the same
pub first_difference-step : (i : ℕ) (header text : List ℕ) → i < length header → i < length text → get_or header i 0 ≡ get_or text i 0
    → option_map (λ p. i + p) (first_difference (drop i header) (drop i text))
    ≡ option_map (λ p. i + 1 + p) (first_difference (drop (i + 1) header) (drop (i + 1) text))
first_difference-step i header text in_header in_text same =
    let in_a : drop i header ≡ get_or header i 0 ∷ drop (i + 1) header = rw add-one (drop-cons header i 0 in_header) in
    let in_b : drop i text ≡ get_or text i 0 ∷ drop (i + 1) text = rw add-one (drop-cons text i 0 in_text) in
    rw (in_a, in_b) (
    ap (option_map (λ (p : ℕ). i + p)) (first_difference-same (get_or header i 0) (get_or text i 0) (drop (i + 1) header) (drop (i + 1) text) same)
    ∙ counted i (first_difference (drop (i + 1) header) (drop (i + 1) text)))

-- a byte that is another one
pub first_difference-stop : (i : ℕ) (header text : List ℕ) → i < length header → i < length text → get_or header i 0 ≢ get_or text i 0
    → option_map (λ p. i + p) (first_difference (drop i header) (drop i text)) ≡ Some i
first_difference-stop i header text in_header in_text other =
    rw (drop-cons header i 0 in_header, drop-cons text i 0 in_text) (
    ap (option_map (λ (p : ℕ). i + p)) (first_difference-other (get_or header i 0) (get_or text i 0) (drop (suc i) header) (drop (suc i) text) other)
    ∙ (let e : i + 0 ≡ i = omega arith in ap (λ (n : ℕ). Some n) e))

-- nothing differs from no byte
first_difference-nil : (header : List ℕ) → first_difference header [] ≡ None
first_difference-nil [] = refl
first_difference-nil (a ∷ header) = refl

-- where one of the texts has ended
pub first_difference-end : (i : ℕ) (header text : List ℕ) → min (length header) (length text) ≤ i
    → option_map (λ p. i + p) (first_difference (drop i header) (drop i text)) ≡ None
first_difference-end i header text ended = elim (cases_lt (length header) (length text)) [
  | inl short ↦ rw (drop_all i header (omega arith)) refl
  | inr short ↦ rw (drop_all i text (omega arith)) (ap (option_map (λ (p : ℕ). i + p)) (first_difference-nil (drop i header)))
]

-- a text behind the header changes nothing
pub first_difference-append : (header key : List ℕ) → first_difference header (header ++ key) ≡ None
first_difference-append [] key = refl
first_difference-append (a ∷ header) key = first_difference-same a a header (header ++ key) refl
    ∙ ap (option_map (λ (place : ℕ). place + 1)) (first_difference-append header key)

-- only none is mapped to none
option_map-none : (place : Option ℕ) → option_map (λ p. p + 1) place ≡ None → place ≡ None
option_map-none None is = refl
option_map-none (Some p) is = cc

-- a text that is long enough and doesn't differ begins with the header
pub first_difference-none : (header text : List ℕ) → first_difference header text ≡ None → length header ≤ length text
    → text ≡ header ++ drop (length header) text
first_difference-none [] text none long = refl
first_difference-none (a ∷ header) [] none long = absurd (omega arith)
first_difference-none (a ∷ header) (b ∷ text) none long = elim (eqb_tells a b) [
  | inl same ↦
      let within : first_difference header text ≡ None = option_map-none (first_difference header text) (sym (first_difference-same a b header text same.1) ∙ none) in
      let rest : text ≡ header ++ drop (length header) text = first_difference-none header text within (omega arith) in
      ap (λ (c : ℕ). c ∷ text) (sym same.1) ∙ ap (λ (xs : List ℕ). a ∷ xs) rest
  | inr differs ↦
      let here : Some 0 ≡ None = sym (first_difference-other a b header text differs.1) ∙ none in
      cc
]

-- lengths that are the same
shorter-same : (n : ℕ) → shorter n n ≡ None
shorter-same n = ap (λ test. cond test None (Some (min n n))) (eq-eqb n n refl)

-- lengths that differ
pub shorter-other : (expected given : ℕ) → expected ≢ given → shorter expected given ≡ Some (min expected given)
shorter-other expected given other = ap (λ test. cond test None (Some (min expected given))) (ne_eqb expected given other)

shorter-none : (expected given : ℕ) → shorter expected given ≡ None → expected ≡ given
shorter-none expected given none = elim (eqb_tells expected given) [
  | inl same ↦ same.1
  | inr differs ↦
      let here : Some (min expected given) ≡ None = sym (shorter-other expected given differs.1) ∙ none in
      cc
]

-- of two none is there where neither is
option_or-none : (a b : Option ℕ) → option_or a b ≡ None → (a ≡ None) × (b ≡ None)
option_or-none None b none = (refl, none)
option_or-none (Some p) b none = cc

-- where a byte of the header differs
pub mismatch-byte : (header text : List ℕ) (size place : ℕ) → first_difference header text ≡ Some place → mismatch header size text ≡ Some place
unfolding mismatch
mismatch-byte header text size place differs = ap (λ (p : Option ℕ). option_or p (shorter (length header + size) (length text))) differs

-- where none does, and the length is another one
pub mismatch-length : (header text : List ℕ) (size : ℕ) → first_difference header text ≡ None → length header + size ≢ length text
    → mismatch header size text ≡ Some (min (length header + size) (length text))
unfolding mismatch
mismatch-length header text size none other =
    ap (λ (p : Option ℕ). option_or p (shorter (length header + size) (length text))) none ∙ shorter-other (length header + size) (length text) other

-- a header and a key behind it have the shape
pub mismatch-append : (header key : List ℕ) → mismatch header (length key) (header ++ key) ≡ None
unfolding mismatch
mismatch-append header key =
    ap (λ (p : Option ℕ). option_or p (shorter (length header + length key) (length (header ++ key)))) (first_difference-append header key)
    ∙ ap (shorter (length header + length key)) (length-append header key) ∙ shorter-same (length header + length key)

-- and what has the shape is a header and a key behind it
pub mismatch-none : (header text : List ℕ) (size : ℕ) → mismatch header size text ≡ None
    → (key : List ℕ) × (text ≡ header ++ key) × (length key ≡ size)
unfolding mismatch
mismatch-none header text size none =
    let parts : (first_difference header text ≡ None) × (shorter (length header + size) (length text) ≡ None)
    = option_or-none (first_difference header text) (shorter (length header + size) (length text)) none in
    let sized : length header + size ≡ length text = shorter-none (length header + size) (length text) parts.1 in
    let whole : text ≡ header ++ drop (length header) text = first_difference-none header text parts.0 (omega arith) in
    let long : length (drop (length header) text) ≡ size = omega (arith, length-drop (length header) text) in
    (drop (length header) text, whole, long)
