-- The bytes and the lines of an input.
use Rattle.std.specs.Prelude.{◌≡◌, ◌≢◌, ℕ, ◌+◌, List, [], ◌∷◌, Option, Some, None, Result, Ok, Err}
use Rattle.mail_commands.specs.Input.{IsLine, IsLineText}
use Rattle.mail_commands.specs.Taken.{InputTakes, OpenTakes}
use Rattle.mail_commands.specs.declared.error.RunError.{RunError}
use Rattle.mail_commands.specs.declared.error.RunError.TheVariants.{Place, Ended, InvalidKey, Mail}

-- one byte was taken, or none
abbrev pub ByteTaken : Result ℕ RunError → List ℕ → Type 0
ByteTaken (Ok b) bytes = bytes ≡ b ∷ []
ByteTaken (Err e) bytes = bytes ≡ []

-- what was taken of an input of a kind: all of it, and it holds this value; or what a refusal takes
abbrev pub InputTaken : {X : Type 0} → (List ℕ → Type 0) → (List ℕ → X → Type 0) → Result X RunError → List ℕ → Type 0
InputTaken Is Holds (Ok value) bytes = Holds bytes value
InputTaken Is Holds (Err error) bytes = InputTakes Is error bytes

-- what was taken of an input of which one may begin another
abbrev pub OpenTaken : {X : Type 0} → (List ℕ → Type 0) → (List ℕ → X → Type 0) → Result X RunError → List ℕ → Type 0
OpenTaken Is Holds (Ok value) bytes = Holds bytes value
OpenTaken Is Holds (Err error) bytes = OpenTakes Is error bytes

-- what was taken of a line; none is answered where the source had ended in front of it
abbrev pub LineOrEnd : {X : Type 0} → ℕ → ℕ → (X → List ℕ) → Result (Option X) RunError → List ℕ → Type 0
LineOrEnd least most items (Ok None) bytes = bytes ≡ []
LineOrEnd least most items (Ok (Some line)) bytes = IsLine least most bytes (items line)
LineOrEnd least most items (Err error) bytes = InputTakes (IsLineText least most) error bytes × (error ≡ Ended → bytes ≢ [])

-- the same refusal of an input that stands behind so many bytes
abbrev pub behind : ℕ → RunError → RunError
behind count (Place place) = Place (count + place)
behind count Ended = Ended
behind count InvalidKey = InvalidKey
behind count (Mail error) = Mail error
