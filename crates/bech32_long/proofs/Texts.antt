-- Texts, written and read.
use Rattle.std.proofs.Common.{◌≡◌, ◌≢◌, ℕ, zero, suc, ◌+◌, ◌-◌, ◌<◌, ◌≤◌, Bool, true, false, not, List, [], ◌∷◌, ◌++◌, length, take, drop, get_or, map, All, Option, Some, None, refl, sym, ap, subst, ◌∙◌, arith, inl, inr, length-append, append_assoc, take-append-drop, zero-add, reverse, take_at, drop_at, append-nil}
use Rattle.std.specs.Prelude.{nat_lt, ◌==◌, position, if◌then◌else◌}
use Rattle.std.specs.List.{list_all, list_any, prefix_len, suffix_len, before_last, after_last}
use Rattle.std.specs.Str.{IsUtf8, str_to_ascii_lowercase}
use Rattle.std.proofs.lemmas.Bool.{cases_lt, cond-true, cond-false, eq-eqb, ne_eqb, not-false, not_from_true, not_from_false, or_from, or_right, or_left}
use Rattle.std.proofs.lemmas.List.{drop_more, length_push, length-reverse, reverse-append, length-take-le, get_or-drop, length-drop}
use Rattle.std.proofs.lemmas.List.Elements.{All-nil, All-cons, All-head, All-tail, All-append, All-map, All-from_get_or}
use Rattle.std.proofs.lemmas.Str.{IsUtf8-from_ascii, IsUtf8-append}
use Rattle.std.proofs.lemmas.Str.Ascii.{IsAscii-from_all}
use Rattle.bech32_long.specs.Groups.{groups}
use Rattle.bech32_long.specs.Checksum.{checksum}
use Rattle.bech32_long.specs.Part.{IsLowered, is_mixed, is_part}
use Rattle.bech32_long.specs.Text.{alphabet, character, checked, data_of, encoding, is_character, is_separator, part_of, reading, spelling, value_of, Reading, Has_no_separator, Has_bad_part, Has_both_cases, Has_bad_character}
use Rattle.bech32_long.proofs.Characters.{none_bad, first_bad}
use Rattle.bech32_long.proofs.Registers.{lt-from_test}
use Rattle.bech32_long.proofs.Parts.{parts_of, visible-utf8}

-- ---- what is written is a text

character-ascii : (value : ℕ) → character value < 128
character-ascii value = lt-from_test 128 alphabet (omega arith) refl value

pub encoding-utf8 : (part bytes : List ℕ) → IsLowered part → IsUtf8 (encoding part bytes)
unfolding spelling
encoding-utf8 part bytes low =
    let values : List ℕ = groups bytes ++ checksum part (groups bytes) in
    let P : ℕ → Type 0 = λ b. b < 128 in
    IsUtf8-append part (49 ∷ map character values) (visible-utf8 part (parts_of part low.visible).visible)
    (IsUtf8-from_ascii (49 ∷ map character values) (IsAscii-from_all (49 ∷ map character values)
    (All-cons P 49 (map character values) (omega arith) (All-map P character values (All-from_get_or (λ (v : ℕ). character v < 128) values 0 (λ i _. character-ascii (get_or values i 0)))))))

-- ---- the last separator

All-reverse : (P : ℕ → Type 0) (xs : List ℕ) → All P xs → All P (reverse xs)
All-reverse P [] h = h
All-reverse P (x ∷ xs) h =
    subst (All P) (sym (reverse-append (x ∷ []) xs))
    (All-append P (reverse xs) (x ∷ []) (All-reverse P xs (All-tail P x xs h)) (All-cons P x [] (All-head P x xs h) (All-nil P)))

prefix_len-past : (p : ℕ → Bool) (xs ys : List ℕ) → All (λ x. p x ≡ true) xs → prefix_len p (xs ++ ys) ≡ length xs + prefix_len p ys
prefix_len-past p [] ys h = sym (zero-add (prefix_len p ys))
prefix_len-past p (x ∷ xs) ys h =
    let more = prefix_len-past p xs ys (All-tail (λ (y : ℕ). p y ≡ true) x xs h) in
    cond-true (p x) (1 + prefix_len p (xs ++ ys)) 0 (All-head (λ (y : ℕ). p y ≡ true) x xs h) ∙ omega arith

suffix_len-at : (p : ℕ → Bool) (xs : List ℕ) (y : ℕ) (ys : List ℕ) → p y ≡ false → All (λ x. p x ≡ true) ys → suffix_len p (xs ++ y ∷ ys) ≡ length ys
suffix_len-at p xs y ys stop h =
    let turned : reverse (xs ++ y ∷ ys) ≡ reverse ys ++ (y ∷ reverse xs) =
    reverse-append xs (y ∷ ys) ∙ ap (λ (zs : List ℕ). zs ++ reverse xs) (reverse-append (y ∷ []) ys) ∙ append_assoc (reverse ys) (y ∷ []) (reverse xs) in
    let none : prefix_len p (y ∷ reverse xs) ≡ 0 = cond-false (p y) (1 + prefix_len p (reverse xs)) 0 stop in
    ap (prefix_len p) turned ∙ prefix_len-past p (reverse ys) (y ∷ reverse xs) (All-reverse (λ (x : ℕ). p x ≡ true) ys h) ∙ omega (arith, length-reverse ys)

-- the last separator stands at this place
pub record Separated (text : List ℕ) (at : ℕ) : Type 0 where
  pub some : list_any is_separator text ≡ true
  pub part : part_of text ≡ take at text
  pub behind : data_of text ≡ drop (at + 1) text
  pub place : length (take at text) ≡ at

pub has_separator : (xs : List ℕ) (y : ℕ) (ys : List ℕ) → is_separator y ≡ true → list_any is_separator (xs ++ y ∷ ys) ≡ true
has_separator [] y ys h = or_left (is_separator y) (list_any is_separator ys) h
has_separator (x ∷ xs) y ys h = or_right (is_separator x) (list_any is_separator (xs ++ y ∷ ys)) (has_separator xs y ys h)

pub part_of-at : (xs : List ℕ) (y : ℕ) (ys : List ℕ) → is_separator y ≡ true → All (λ b. not (is_separator b) ≡ true) ys → part_of (xs ++ y ∷ ys) ≡ xs
part_of-at xs y ys here h =
    take_at xs (y ∷ ys) (length (xs ++ y ∷ ys) - suffix_len (λ b. not (is_separator b)) (xs ++ y ∷ ys) - 1)
    (omega (arith, suffix_len-at (λ (b : ℕ). not (is_separator b)) xs y ys (not_from_true (is_separator y) here) h, length-append xs (y ∷ ys)))

pub data_of-at : (xs : List ℕ) (y : ℕ) (ys : List ℕ) → is_separator y ≡ true → All (λ b. not (is_separator b) ≡ true) ys → data_of (xs ++ y ∷ ys) ≡ ys
data_of-at xs y ys here h =
    let n : ℕ = length (xs ++ y ∷ ys) - suffix_len (λ b. not (is_separator b)) (xs ++ y ∷ ys) in
    ap (drop n) (sym (append_assoc xs (y ∷ []) ys))
    ∙ drop_at (xs ++ y ∷ []) ys n (omega (arith, suffix_len-at (λ (b : ℕ). not (is_separator b)) xs y ys (not_from_true (is_separator y) here) h, length-append xs (y ∷ ys), length_push xs y))

pub separated : (text : List ℕ) (at : ℕ) → at < length text → get_or text at 0 ≡ 49 → ((k : ℕ) → at < k → k < length text → get_or text k 0 ≢ 49) → Separated text at
separated text at h here last =
    let b : ℕ = get_or text at 0 in
    let rest : List ℕ = drop (at + 1) text in
    let whole : text ≡ take at text ++ b ∷ rest = sym (take-append-drop at text) ∙ ap (λ (xs : List ℕ). take at text ++ xs) (drop_more text at 0 h) in
    let is : is_separator b ≡ true = eq-eqb b 49 here in
    let none : All (λ x. not (is_separator x) ≡ true) rest =
    All-from_get_or (λ (x : ℕ). not (is_separator x) ≡ true) rest 0 (λ i lt. not_from_false (is_separator (get_or rest i 0)) (ne_eqb (get_or rest i 0) 49
    (λ e. last (at + 1 + i) (omega arith) (omega (arith, length-drop (at + 1) text)) (sym (get_or-drop (at + 1) text i 0) ∙ e)))) in
    record {
      some = ap (list_any is_separator) whole ∙ has_separator (take at text) b rest is;
      part = ap part_of whole ∙ part_of-at (take at text) b rest is none;
      behind = ap data_of whole ∙ data_of-at (take at text) b rest is none;
      place = length-take-le at text (omega arith);
    }

pub not_separated : (text : List ℕ) → All (λ b. b ≢ 49) text → list_any is_separator text ≡ false
not_separated [] h = refl
not_separated (b ∷ text) h =
    or_from (is_separator b) (list_any is_separator text) (ne_eqb b 49 (All-head (λ (x : ℕ). x ≢ 49) b text h)) (not_separated text (All-tail (λ (x : ℕ). x ≢ 49) b text h))

-- ---- readings by cases

unfoldable pub judged : Bool → Bool → Bool → Bool → Reading → Reading → Reading
judged some part mixed plain bad good =
    if not some then Has_no_separator else if not part then Has_bad_part else if mixed then Has_both_cases else if not plain then bad else good

pub reading-judged : (text : List ℕ) → reading text ≡ judged (list_any is_separator text) (is_part (part_of text)) (is_mixed text) (list_all is_character (data_of text))
    (Has_bad_character (length (part_of text) + 1 + prefix_len is_character (data_of text))) (checked (str_to_ascii_lowercase (part_of text)) (map value_of (data_of text)))
unfolding reading judged
reading-judged text = refl

judged-none : (part mixed plain : Bool) (bad good : Reading) → judged false part mixed plain bad good ≡ Has_no_separator
unfolding judged
judged-none part mixed plain bad good = refl

judged-part : (mixed plain : Bool) (bad good : Reading) → judged true false mixed plain bad good ≡ Has_bad_part
unfolding judged
judged-part mixed plain bad good = refl

judged-mixed : (plain : Bool) (bad good : Reading) → judged true true true plain bad good ≡ Has_both_cases
unfolding judged
judged-mixed plain bad good = refl

judged-bad : (bad good : Reading) → judged true true false false bad good ≡ bad
unfolding judged
judged-bad bad good = refl

pub judged-good : (bad good : Reading) → judged true true false true bad good ≡ good
unfolding judged
judged-good bad good = refl

pub reading-none : (text : List ℕ) → list_any is_separator text ≡ false → reading text ≡ Has_no_separator
reading-none text none = reading-judged text ∙ (rw none (judged-none _ _ _ _ _))

module _ (text : List ℕ) (at : ℕ) (s : Separated text at) where
  pub reading-part : is_part (take at text) ≡ false → reading text ≡ Has_bad_part
  reading-part part = reading-judged text ∙ (rw (s.some, s.part, part) (judged-part _ _ _ _))

  pub reading-mixed : is_part (take at text) ≡ true → is_mixed text ≡ true → reading text ≡ Has_both_cases
  reading-mixed part mixed = reading-judged text ∙ (rw (s.some, s.part, part, mixed) (judged-mixed _ _ _))

  pub reading-bad : is_part (take at text) ≡ true → is_mixed text ≡ false → (place : ℕ) → position (λ c. not (is_character c)) (drop (at + 1) text) ≡ Some place
      → reading text ≡ Has_bad_character (at + 1 + place)
  reading-bad part mixed place e =
      let bad = first_bad is_character (drop (at + 1) text) place e in
      let is : at + 1 + place ≡ length (part_of text) + 1 + prefix_len is_character (data_of text) = rw (s.part, s.behind, s.place) (omega (arith, bad.1)) in
      rw is (reading-judged text ∙ (rw (s.some, s.part, part, mixed, s.behind, bad.0) (judged-bad _ _)))

  pub reading-checked : is_part (take at text) ≡ true → is_mixed text ≡ false → position (λ c. not (is_character c)) (drop (at + 1) text) ≡ None
      → reading text ≡ checked (str_to_ascii_lowercase (take at text)) (map value_of (drop (at + 1) text))
  reading-checked part mixed e =
      let plain = none_bad is_character (drop (at + 1) text) e in
      reading-judged text ∙ (rw (s.some, s.part, part, mixed, s.behind, plain) (judged-good _ _))

  -- the same of the characters as they are handed on
  pub reading-rest : (characters part : List ℕ) → characters ≡ drop (at + 1) text → part ≡ str_to_ascii_lowercase (take at text) → is_part (take at text) ≡ true → is_mixed text ≡ false
      → position (λ c. not (is_character c)) characters ≡ None → reading text ≡ checked part (map value_of characters)
  reading-rest characters part rest low front mixed none =
      reading-checked front mixed (ap (position (λ (c : ℕ). not (is_character c))) (sym rest) ∙ none)
      ∙ ap (λ (xs : List ℕ). checked xs (map value_of (drop (at + 1) text))) (sym low)
      ∙ ap (λ (xs : List ℕ). checked part (map value_of xs)) (sym rest)
