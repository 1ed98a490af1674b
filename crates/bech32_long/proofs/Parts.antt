-- Human-readable parts in lower case.
use Rattle.std.proofs.Common.{◌≡◌, ℕ, ◌<◌, ◌≤◌, Bool, true, false, not, List, [], ◌∷◌, ◌++◌, length, take, map, refl, sym, ap, ◌∙◌, subst, arith}
use Rattle.std.specs.Prelude.{nat_le, ◌&&◌}
use Rattle.std.specs.List.{list_all, list_any}
use Rattle.std.specs.Char.{is_ascii_graphic, is_ascii_lowercase, is_ascii_uppercase, to_ascii_lowercase}
use Rattle.std.specs.Str.{IsUtf8, str_to_ascii_lowercase}
use Rattle.std.proofs.lemmas.Bool.{and_parts, and_from, and_left, or_from, not-true, leb-true, not_from_false}
use Rattle.std.proofs.lemmas.Bool.Decides.{nat_tests}
use Rattle.std.proofs.lemmas.List.{length-map, take_at}
use Rattle.std.proofs.lemmas.Str.{IsUtf8-from_ascii}
use Rattle.std.proofs.lemmas.Str.Ascii.{IsAscii-from_all}
use Rattle.bech32_long.specs.Part.{IsLowered, is_mixed, is_part}
use Rattle.bech32_long.specs.private.Lowered.{IsStored}
use Rattle.bech32_long.proofs.Characters.{All-from_list_all}

pub graphic-ascii : (c : ℕ) → is_ascii_graphic c ≡ true → c < 128
graphic-ascii c e = grind (arith, nat_tests)

graphic-lowered : (c : ℕ) → is_ascii_graphic c ≡ true → is_ascii_graphic (to_ascii_lowercase c) ≡ true
graphic-lowered c e = grind (arith, nat_tests)

capital-lowered : (c : ℕ) → is_ascii_uppercase (to_ascii_lowercase c) ≡ false
capital-lowered c = grind (arith, nat_tests)

pub visible-utf8 : (text : List ℕ) → list_all is_ascii_graphic text ≡ true → IsUtf8 text
visible-utf8 text e = IsUtf8-from_ascii text (IsAscii-from_all text (All-from_list_all is_ascii_graphic (λ b. b < 128) graphic-ascii text e))

visible-lowered : (text : List ℕ) → list_all is_ascii_graphic text ≡ true → list_all is_ascii_graphic (map to_ascii_lowercase text) ≡ true
visible-lowered [] e = refl
visible-lowered (c ∷ text) e =
    let parts : (is_ascii_graphic c ≡ true) × (list_all is_ascii_graphic text ≡ true) = and_parts (is_ascii_graphic c) (list_all is_ascii_graphic text) e in
    and_from (is_ascii_graphic (to_ascii_lowercase c)) (list_all is_ascii_graphic (map to_ascii_lowercase text)) (graphic-lowered c parts.0) (visible-lowered text parts.1)

pub no_capitals : (text : List ℕ) → list_any is_ascii_uppercase (map to_ascii_lowercase text) ≡ false
no_capitals [] = refl
no_capitals (c ∷ text) = or_from (is_ascii_uppercase (to_ascii_lowercase c)) (list_any is_ascii_uppercase (map to_ascii_lowercase text)) (capital-lowered c) (no_capitals text)

-- what a part is
pub record Parts (text : List ℕ) : Type 0 where
  pub some : nat_le 1 (length text) ≡ true
  pub few : nat_le (length text) 83 ≡ true
  pub visible : list_all is_ascii_graphic text ≡ true
  pub same_case : not (is_mixed text) ≡ true

pub parts_of : (text : List ℕ) → is_part text ≡ true → Parts text
parts_of text e =
    let three : (((nat_le 1 (length text) && nat_le (length text) 83) && list_all is_ascii_graphic text) ≡ true) × (not (is_mixed text) ≡ true) =
    and_parts ((nat_le 1 (length text) && nat_le (length text) 83) && list_all is_ascii_graphic text) (not (is_mixed text)) e in
    let two : ((nat_le 1 (length text) && nat_le (length text) 83) ≡ true) × (list_all is_ascii_graphic text ≡ true) =
    and_parts (nat_le 1 (length text) && nat_le (length text) 83) (list_all is_ascii_graphic text) three.0 in
    let one : (nat_le 1 (length text) ≡ true) × (nat_le (length text) 83 ≡ true) = and_parts (nat_le 1 (length text)) (nat_le (length text) 83) two.0 in
    record { some = one.0; few = one.1; visible = two.1; same_case = three.1 }

pub from_parts : (text : List ℕ) → Parts text → is_part text ≡ true
from_parts text p =
    and_from ((nat_le 1 (length text) && nat_le (length text) 83) && list_all is_ascii_graphic text) (not (is_mixed text))
    (and_from (nat_le 1 (length text) && nat_le (length text) 83) (list_all is_ascii_graphic text) (and_from (nat_le 1 (length text)) (nat_le (length text) 83) p.some p.few) p.visible)
    p.same_case

pub part-within : (text : List ℕ) → is_part text ≡ true → length text ≤ 83
part-within text e = leb-true (length text) 83 (parts_of text e).few

pub IsLowered-lowered : (text : List ℕ) → is_part text ≡ true → IsLowered (str_to_ascii_lowercase text)
IsLowered-lowered text e =
    let p : Parts text = parts_of text e in
    let len : length (map to_ascii_lowercase text) ≡ length text = length-map text to_ascii_lowercase in
    let low : list_any is_ascii_uppercase (map to_ascii_lowercase text) ≡ false = no_capitals text in
    record {
      visible = from_parts (map to_ascii_lowercase text) record {
        some = ap (nat_le 1) len ∙ p.some;
        few = ap (λ (n : ℕ). nat_le n 83) len ∙ p.few;
        visible = visible-lowered text p.visible;
        same_case = not_from_false (is_mixed (map to_ascii_lowercase text)) (and_left (list_any is_ascii_uppercase (map to_ascii_lowercase text)) (list_any is_ascii_lowercase (map to_ascii_lowercase text)) low);
      };
      low = low;
    }

-- a part stored before other bytes
pub IsStored-lowered : (text bytes rest : List ℕ) → is_part text ≡ true → bytes ≡ str_to_ascii_lowercase text ++ rest
    → (take (length text) bytes ≡ str_to_ascii_lowercase text) × IsStored bytes (length text)
IsStored-lowered text bytes rest e is =
    let front : take (length text) bytes ≡ str_to_ascii_lowercase text =
    ap (take (length text)) is ∙ take_at (str_to_ascii_lowercase text) rest (length text) (length-map text to_ascii_lowercase) in
    (front, record { within = part-within text e; lowered = subst IsLowered (sym front) (IsLowered-lowered text e) })
