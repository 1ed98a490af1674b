-- What a scan and the reading of a stanza say of the bytes that are held.
use Rattle.std.proofs.Common.{◌≡◌, ℕ, ◌+◌, ◌-◌, ◌≤◌, List, ◌++◌, length, take, drop, None, refl, sym, ap, ◌∙◌, append_assoc, arith}
use Rattle.std.proofs.lemmas.List.{length-append, take-append-drop}
use Rattle.std.proofs.lemmas.List.Prefix.{end_rest}
use Rattle.base64.specs.declared.engine.general_purpose.GeneralPurpose.{GeneralPurpose}
use Rattle.age_format.specs.declared.scan.Place.{Place}
use Rattle.age_format.specs.declared.scan.Place.TheVariants.{Start}
use Rattle.age_format.specs.declared.scan.Step.TheVariants.{To}
use Rattle.age_format.specs.Stanza.{IsFront}
use Rattle.age_format.specs.Front.{IsMalformed}
use Rattle.age_format.specs.private.Parse.{IsLineEngine, stanza_read}
use Rattle.age_format.specs.private.Scan.{Whole, Broken, scan, IsScannedTo}
use Rattle.age_format.proofs.Stanzas.{none_begins}
use Rattle.age_format.proofs.Scans.{seen_all, broken_no_front, broken_begins_none, whole_no_front}
use Rattle.age_format.proofs.Fronts.{scan_front}
use Rattle.age_format.proofs.Completions.{cases_front}

-- all of it was scanned
pub scanned_front : (text : List ℕ) (seen : ℕ) (place : Place) → IsScannedTo text seen place → seen ≡ length text → IsFront text
scanned_front text seen place is all = cases_front text (scan_front text place (seen_all text seen place is all))

-- a byte is none of a stanza
pub scanned_broken : (text : List ℕ) → scan (To Start) text ≡ Broken → IsMalformed text
scanned_broken text e = record { no_front = broken_no_front text e; begins_none = broken_begins_none text e }

-- the end of a stanza was found, and it is none
pub scanned_none : (engine : GeneralPurpose) (text rest : List ℕ) → IsLineEngine engine → scan (To Start) text ≡ Whole rest → stanza_read engine text ≡ None → IsMalformed text
scanned_none engine text rest is e none = record { no_front = whole_no_front text rest e; begins_none = none_begins engine is text none }

-- what follows what was given
pub behind_given : (buffer spelled rest : List ℕ) (given : ℕ) → drop given buffer ≡ spelled ++ rest → drop (length buffer - length rest) buffer ≡ rest
behind_given buffer spelled rest given e =
    end_rest buffer rest (take given buffer ++ spelled) (sym (take-append-drop given buffer) ∙ (ap (λ (t : List ℕ). take given buffer ++ t) e ∙ sym (append_assoc (take given buffer) spelled rest)))

pub rest_within : (buffer spelled rest : List ℕ) (given : ℕ) → drop given buffer ≡ spelled ++ rest → length rest ≤ length buffer
rest_within buffer spelled rest given e =
    let all : length buffer ≡ length (take given buffer) + length (spelled ++ rest) = ap length (sym (take-append-drop given buffer) ∙ ap (λ (t : List ℕ). take given buffer ++ t) e) ∙ length-append (take given buffer) (spelled ++ rest) in
    omega (arith, all, length-append spelled rest)

-- nothing was scanned
pub nothing_scanned : (text : List ℕ) → IsScannedTo text 0 Start
unfolding scan
nothing_scanned text = record { within = omega arith; place_is = refl }
