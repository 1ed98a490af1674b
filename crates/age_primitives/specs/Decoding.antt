-- How a text is decoded, by what three closures answer.
use Rattle.std.specs.Prelude.{◌≡◌, ◌⊎◌, ℕ, List, Result, Ok, Err}
use Rattle.std.specs.Fn.{Once}
use denote.Ref.{Bor}
use Rattle.bech32_long.specs.declared.error.Bech32Error.{Bech32Error}
use Rattle.bech32_long.specs.Answers.{IsRefusal}
use Rattle.bech32_long.specs.Text.{Reading, Read}

-- The text was refused, or memory ran out, and the answer is what the first closure may give of that.
abbrev pub IsRefused : {T E : Type 0} → (Bech32Error → E → Type 0) → Reading → Result T E → Type 0
IsRefused {T} {E} refused read answer = (why : Bech32Error) × (error : E) × IsRefusal read why × refused why error × (answer ≡ Err error)

-- What becomes of a part and bytes that were read: the error that the second closure may give of the part,
-- or, where that may give none, what the third may give of both.
abbrev pub IsTaken : {T E : Type 0} → (List ℕ → Result (Unit {0}) E → Type 0) → (List ℕ → List ℕ → Result T E → Type 0) → Reading → Result T E → Type 0
IsTaken {T} {E} filtered parsed read answer = (part bytes : List ℕ) × (read ≡ Read part bytes)
    × (((error : E) × filtered part (Err error) × (answer ≡ Err error)) ⊎ (filtered part (Ok tt) × parsed part bytes answer))

-- the answer of a call that decodes a text and hands it on
abbrev pub Decodes : {T E : Type 0} → (Bech32Error → E → Type 0) → (List ℕ → Result (Unit {0}) E → Type 0) → (List ℕ → List ℕ → Result T E → Type 0) → Reading → Result T E → Type 0
Decodes refused filtered parsed read answer = IsRefused refused read answer ⊎ IsTaken filtered parsed read answer

-- f may be called once at a `&` to x and one to y
abbrev pub TakesAtPair : {F A B R : Type 0} → Once F (Bor A × (Bor B × Unit {0})) R → F → A → B → Type 0
TakesAtPair {F} {A} {B} g f x y = (p : Bor A) (q : Bor B) → p.now ≡ x → q.now ≡ y → g.pre f (p, (q, tt))
