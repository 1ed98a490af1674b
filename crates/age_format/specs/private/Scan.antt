-- The scan of a text for the end of a stanza, byte by byte, on lists.
-- The private functions compute it; no public clause cites it, and nothing here has to be believed.
use Rattle.std.specs.Prelude.{◌≡◌, ℕ, ◌+◌, ◌≤◌, ◌==◌, ◌&&◌, ◌||◌, nat_le, Bool, if◌then◌else◌, List, [], ◌∷◌, length, take, drop}
use Rattle.base64.specs.declared.engine.general_purpose.GeneralPurpose.{GeneralPurpose}
use Rattle.age_format.specs.declared.scan.Place.{Place}
use Rattle.age_format.specs.declared.scan.Place.TheVariants.{Start, Dash, Arrow, Gap, Word, Line}
use Rattle.age_format.specs.declared.scan.Step.{Step}
use Rattle.age_format.specs.declared.scan.Step.TheVariants.{To, End, Bad}
use Rattle.age_format.specs.private.Parse.{is_visible, IsLineEngine}

-- one of the 64 characters, by their ranges
abbrev pub is_character : ℕ → Bool
is_character b = (nat_le 65 b && nat_le b 90) || ((nat_le 97 b && nat_le b 122) || ((nat_le 48 b && nat_le b 57) || (b == 43 || b == 47)))

-- what a byte is at a place
abbrev pub step : Place → ℕ → Step
step Start b = if b == 45 then To Dash else Bad
step Dash b = if b == 62 then To Arrow else Bad
step Arrow b = if b == 32 then To Gap else Bad
step Gap b = if is_visible b then To Word else Bad
step Word b = if is_visible b then To Word else if b == 32 then To Gap else if b == 10 then To (Line 0) else Bad
step (Line n) b =
    if b == 10 then (if nat_le 64 n then To (Line 0) else End)
    else if nat_le 64 n then Bad
    else if is_character b then To (Line (n + 1)) else Bad

-- what a scan comes to: all bytes of the text and a place, the end of a stanza and what follows it,
-- or a byte that no stanza has there
pub data ScanEnd : Type 0 where
  At : (place : Place) → ScanEnd
  Whole : (rest : List ℕ) → ScanEnd
  Broken : ScanEnd

-- the scan of a text behind a step
unfoldable pub scan : Step → List ℕ → ScanEnd
scan (To place) [] = At place
scan (To place) (b ∷ bs) = scan (step place b) bs
scan End bs = Whole bs
scan Bad bs = Broken

-- so many bytes of the text were scanned, and the next one stands at this place
pub record IsScannedTo (text : List ℕ) (seen : ℕ) (place : Place) : Type 0 where
  pub within : seen ≤ length text
  pub place_is : scan (To Start) (take seen text) ≡ At place

-- a reader's fields: what was given stands at the front of the buffer, and what follows was scanned so far
pub record IsScanned (buffer : List ℕ) (given : ℕ) (engine : GeneralPurpose) (seen : ℕ) (place : Place) : Type 0 where
  pub given_within : given ≤ length buffer
  pub engine_is : IsLineEngine engine
  pub seen_is : IsScannedTo (drop given buffer) seen place
