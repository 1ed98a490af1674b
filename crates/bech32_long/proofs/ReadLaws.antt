-- What was written is read, what was read is written again, and a changed character is refused.
use Rattle.std.proofs.Common.{◌≡◌, ◌≢◌, ℕ, zero, suc, ◌+◌, ◌-◌, ◌<◌, ◌≤◌, Bool, true, false, not, List, [], ◌∷◌, ◌++◌, length, take, drop, get_or, map, All, refl, sym, ap, subst, ◌∙◌, arith, inl, inr, length-append, append_assoc, take-append-drop, take_at, drop_at, cond}
use Rattle.std.specs.Prelude.{nat_le, nat_lt, ◌==◌, ◌&&◌, ◌||◌}
use Rattle.std.specs.List.{list_all, list_any, position_or_len, prefix_len, range_with_len}
use Rattle.std.specs.Char.{is_ascii_graphic, is_ascii_lowercase, is_ascii_uppercase, to_ascii_lowercase}
use Rattle.std.specs.Str.{bytes_eq, str_to_ascii_lowercase}
use Rattle.std.proofs.lemmas.Bool.{and_from, and_left, and_parts, cases_Bool, cond-true, cond-false, eq-eqb, eqb-true, leb-true, le-leb, lt-ltb, ltb-true, ne_eqb, not-true, not_from_false, or_from, or_parts}
use Rattle.std.proofs.lemmas.Bool.Decides.{nat_tests}
use Rattle.std.proofs.lemmas.List.{get_or-map, length-map, length-take-le, length-drop, map-append}
use Rattle.std.proofs.lemmas.List.Elements.{All-nil, All-cons, All-head, All-tail, All-append, All-map, All-take, All-drop, All-from_get_or}
use Rattle.std.proofs.lemmas.List.Folds.{list_any-append, list_all-append}
use Rattle.std.proofs.lemmas.List.FromFn.{get_or-map-range_with_len, get_or-range_with_len}
use Rattle.std.proofs.lemmas.Slice.Eq.{bytes_eq-Decides}
use Rattle.bech32_long.specs.Groups.{groups, leftover, leftover_count, whole_bytes, digits_of}
use Rattle.bech32_long.specs.Checksum.{checksum, is_checked, one, residue}
use Rattle.bech32_long.specs.Part.{IsLowered, is_mixed, is_part}
use Rattle.bech32_long.specs.Text.{alphabet, character, checked, data_of, data_values, encoding, is_character, is_separator, part_of, reading, spelling, value_of, Reading, Read, Has_no_separator, Has_bad_part, Has_both_cases, Has_bad_character, Has_bad_checksum}
use Rattle.bech32_long.proofs.Characters.{All-from_list_all, list_all-from_prefix_len, prefix_len-from_list_all, value_of-lt}
use Rattle.bech32_long.proofs.DigitLemmas.{digits_of-lt}
use Rattle.bech32_long.proofs.Parts.{IsLowered-lowered, parts_of, graphic-ascii}
use Rattle.bech32_long.proofs.Regrouped.{groups-whole_bytes, whole_bytes-groups}
use Rattle.bech32_long.proofs.Residues.{checksum-from_residue, checksum-lt, length-checksum, residue-checksum, same_value}
use Rattle.bech32_long.proofs.Texts.{data_of-at, has_separator, judged, judged-good, part_of-at, reading-judged}

-- ---- characters and values

characters : map (λ v. value_of (character v)) (range_with_len 0 32) ≡ range_with_len 0 32
unfolding value_of
characters = refl

pub value_of-character : (v : ℕ) → v < 32 → value_of (character v) ≡ v
value_of-character v h =
    sym (get_or-map-range_with_len (λ k. value_of (character k)) 0 32 v v 0 h (omega arith))
    ∙ ap (λ (xs : List ℕ). get_or xs v 0) characters ∙ get_or-range_with_len 0 32 v 0 h ∙ omega arith

position_or_len-at : (p : ℕ → Bool) (xs : List ℕ) → position_or_len p xs < length xs → p (get_or xs (position_or_len p xs) 0) ≡ true
position_or_len-at p [] h = absurd (omega arith)
position_or_len-at p (x ∷ xs) h = elim (cases_Bool (p x)) [
  | inl here ↦
      let none : position_or_len p (x ∷ xs) ≡ 0 = ap (λ (b : Bool). cond (not b) (1 + position_or_len p xs) 0) here in
      rw none here
  | inr fails ↦
      let more : position_or_len p (x ∷ xs) ≡ 1 + position_or_len p xs = ap (λ (b : Bool). cond (not b) (1 + position_or_len p xs) 0) fails in
      let next : 1 + position_or_len p xs ≡ suc (position_or_len p xs) = omega arith in
      rw (more, next) (position_or_len-at p xs (omega arith))
]

pub character-value_of : (c : ℕ) → is_character c ≡ true → character (value_of c) ≡ to_ascii_lowercase c
unfolding value_of
character-value_of c e =
    let low : ℕ = to_ascii_lowercase c in
    eqb-true (get_or alphabet (position_or_len (λ a. a == low) alphabet) 0) low
    (position_or_len-at (λ (a : ℕ). a == low) alphabet (ltb-true (position_or_len (λ a. a == low) alphabet) 32 e))

pub is_character-character : (v : ℕ) → v < 32 → is_character (character v) ≡ true
is_character-character v h = lt-ltb (value_of (character v)) 32 (rw (value_of-character v h) h)

-- what holds of each of the characters
of_alphabet : (p : ℕ → Bool) (xs : List ℕ) → list_all p xs ≡ true → (v : ℕ) → v < length xs → p (get_or xs v 0) ≡ true
of_alphabet p [] e v h = absurd (omega arith)
of_alphabet p (x ∷ xs) e zero h = (and_parts (p x) (list_all p xs) e).0
of_alphabet p (x ∷ xs) e (suc v) h = of_alphabet p xs (and_parts (p x) (list_all p xs) e).1 v (omega arith)

character-no_separator : (v : ℕ) → v < 32 → not (is_separator (character v)) ≡ true
character-no_separator v h = of_alphabet (λ c. not (is_separator c)) alphabet refl v h

character-small : (v : ℕ) → v < 32 → not (is_ascii_uppercase (character v)) ≡ true
character-small v h = of_alphabet (λ c. not (is_ascii_uppercase c)) alphabet refl v h

-- ---- lists of characters

no_capitals-characters : (vs : List ℕ) → All (λ v. v < 32) vs → list_any is_ascii_uppercase (map character vs) ≡ false
no_capitals-characters [] h = refl
no_capitals-characters (v ∷ vs) h =
    or_from (is_ascii_uppercase (character v)) (list_any is_ascii_uppercase (map character vs)) (not-true (is_ascii_uppercase (character v)) (character-small v (All-head (λ (x : ℕ). x < 32) v vs h)))
    (no_capitals-characters vs (All-tail (λ (x : ℕ). x < 32) v vs h))

plain-characters : (vs : List ℕ) → All (λ v. v < 32) vs → list_all is_character (map character vs) ≡ true
plain-characters [] h = refl
plain-characters (v ∷ vs) h =
    and_from (is_character (character v)) (list_all is_character (map character vs)) (is_character-character v (All-head (λ (x : ℕ). x < 32) v vs h))
    (plain-characters vs (All-tail (λ (x : ℕ). x < 32) v vs h))

values-characters : (vs : List ℕ) → All (λ v. v < 32) vs → map value_of (map character vs) ≡ vs
values-characters [] h = refl
values-characters (v ∷ vs) h =
    ap (λ (x : ℕ). x ∷ map value_of (map character vs)) (value_of-character v (All-head (λ (x : ℕ). x < 32) v vs h))
    ∙ ap (λ (xs : List ℕ). v ∷ xs) (values-characters vs (All-tail (λ (x : ℕ). x < 32) v vs h))

characters-values : (cs : List ℕ) → list_all is_character cs ≡ true → map character (map value_of cs) ≡ map to_ascii_lowercase cs
characters-values [] e = refl
characters-values (c ∷ cs) e =
    let parts : (is_character c ≡ true) × (list_all is_character cs ≡ true) = and_parts (is_character c) (list_all is_character cs) e in
    ap (λ (x : ℕ). x ∷ map character (map value_of cs)) (character-value_of c parts.0) ∙ ap (λ (xs : List ℕ). to_ascii_lowercase c ∷ xs) (characters-values cs parts.1)

values-lt : (cs : List ℕ) → list_all is_character cs ≡ true → All (λ v. v < 32) (map value_of cs)
values-lt cs e = All-map (λ (v : ℕ). v < 32) value_of cs (All-from_list_all is_character (λ (c : ℕ). value_of c < 32) value_of-lt cs e)

-- ---- parts in lower case

small-lowered : (c : ℕ) → is_ascii_uppercase c ≡ false → to_ascii_lowercase c ≡ c
small-lowered c e = grind (arith, nat_tests)

lowered-same : (text : List ℕ) → list_any is_ascii_uppercase text ≡ false → map to_ascii_lowercase text ≡ text
lowered-same [] e = refl
lowered-same (c ∷ text) e =
    let parts : (is_ascii_uppercase c ≡ false) × (list_any is_ascii_uppercase text ≡ false) = or_parts (is_ascii_uppercase c) (list_any is_ascii_uppercase text) e in
    ap (λ (x : ℕ). x ∷ map to_ascii_lowercase text) (small-lowered c parts.0) ∙ ap (λ (xs : List ℕ). c ∷ xs) (lowered-same text parts.1)

bounded : (xs : List ℕ) → All (λ b. b < 128) xs → (k : ℕ) → get_or xs k 0 < 256
bounded [] h k = omega arith
bounded (x ∷ xs) h zero =
    let first : x < 128 = All-head (λ (b : ℕ). b < 128) x xs h in
    omega arith
bounded (x ∷ xs) h (suc k) = bounded xs (All-tail (λ (b : ℕ). b < 128) x xs h) k

pub part-bytes : (part : List ℕ) → is_part part ≡ true → (k : ℕ) → get_or part k 0 < 256
part-bytes part e = bounded part (All-from_list_all is_ascii_graphic (λ (b : ℕ). b < 128) graphic-ascii part (parts_of part e).visible)

-- ---- what was written is read

checked-spelled : (part bytes : List ℕ) → IsLowered part → All (λ b. b < 256) bytes → All (λ v. v < 32) (groups bytes)
    → checked part (groups bytes ++ checksum part (groups bytes)) ≡ Read part bytes
checked-spelled part bytes low h values =
    let vs : List ℕ = groups bytes in
    let sum : List ℕ = checksum part vs in
    let six : length sum ≡ 6 = length-checksum part vs (part-bytes part low.visible) values in
    let len : length (vs ++ sum) ≡ length vs + 6 = length-append vs sum ∙ ap (λ (k : ℕ). length vs + k) six in
    let enough : nat_le 6 (length (vs ++ sum)) ≡ true = le-leb 6 (length (vs ++ sum)) (omega arith) in
    let right : is_checked part (vs ++ sum) ≡ true = (bytes_eq-Decides (residue part (vs ++ sum)) one).1 (residue-checksum part vs (part-bytes part low.visible) values) in
    let front : take (length (vs ++ sum) - 6) (vs ++ sum) ≡ vs = take_at vs sum (length (vs ++ sum) - 6) (omega arith) in
    cond-true (nat_le 6 (length (vs ++ sum)) && is_checked part (vs ++ sum)) (Read part (whole_bytes (take (length (vs ++ sum) - 6) (vs ++ sum)))) Has_bad_checksum
    (and_from (nat_le 6 (length (vs ++ sum))) (is_checked part (vs ++ sum)) enough right)
    ∙ ap (λ (xs : List ℕ). Read part (whole_bytes xs)) front
    ∙ ap (Read part) (whole_bytes-groups bytes h)

groups-lt : (bytes : List ℕ) → All (λ v. v < 32) (groups bytes)
unfolding groups
groups-lt bytes = digits_of-lt 32 _ _ (omega arith)

no_separators : (xs : List ℕ) → All (λ v. v < 32) xs → All (λ v. not (is_separator (character v)) ≡ true) xs
no_separators [] h = All-nil (λ (v : ℕ). not (is_separator (character v)) ≡ true)
no_separators (v ∷ xs) h =
    All-cons (λ (x : ℕ). not (is_separator (character x)) ≡ true) v xs (character-no_separator v (All-head (λ (x : ℕ). x < 32) v xs h))
    (no_separators xs (All-tail (λ (x : ℕ). x < 32) v xs h))

pub reading-encoding : (part bytes : List ℕ) → IsLowered part → All (λ b. b < 256) bytes → reading (encoding part bytes) ≡ Read part bytes
unfolding spelling
reading-encoding part bytes low h =
    let vs : List ℕ = groups bytes ++ checksum part (groups bytes) in
    let values : All (λ v. v < 32) (groups bytes) = groups-lt bytes in
    let all : All (λ v. v < 32) vs = All-append (λ (v : ℕ). v < 32) (groups bytes) (checksum part (groups bytes)) values (checksum-lt part (groups bytes) (part-bytes part low.visible) values) in
    let chars : List ℕ = map character vs in
    let text : List ℕ = part ++ 49 ∷ chars in
    let none : All (λ b. not (is_separator b) ≡ true) chars = All-map (λ (b : ℕ). not (is_separator b) ≡ true) character vs (no_separators vs all) in
    let some : list_any is_separator text ≡ true = has_separator part 49 chars refl in
    let front : part_of text ≡ part = part_of-at part 49 chars refl none in
    let behind : data_of text ≡ chars = data_of-at part 49 chars refl none in
    let small : list_any is_ascii_uppercase text ≡ false =
    list_any-append is_ascii_uppercase part (49 ∷ chars) ∙ or_from (list_any is_ascii_uppercase part) (list_any is_ascii_uppercase chars) low.low (no_capitals-characters vs all) in
    let mixed : is_mixed text ≡ false = and_left (list_any is_ascii_uppercase text) (list_any is_ascii_lowercase text) small in
    let plain : list_all is_character chars ≡ true = plain-characters vs all in
    reading-judged text ∙ (rw (some, front, low.visible, mixed, behind, plain) (judged-good _ _))
    ∙ ap (λ (xs : List ℕ). checked xs (map value_of chars)) (lowered-same part low.low)
    ∙ ap (checked part) (values-characters vs all)
    ∙ checked-spelled part bytes low h values

-- ---- what was read is written again

-- what a text that is read has
pub record Reads (text part bytes : List ℕ) : Type 0 where
  pub some : list_any is_separator text ≡ true
  pub front : is_part (part_of text) ≡ true
  pub plain : list_all is_character (data_of text) ≡ true
  pub checks : checked (str_to_ascii_lowercase (part_of text)) (map value_of (data_of text)) ≡ Read part bytes

judged-read : (some front mixed plain : Bool) (place : ℕ) (good : Reading) (part bytes : List ℕ)
    → judged some front mixed plain (Has_bad_character place) good ≡ Read part bytes
    → (some ≡ true) × (front ≡ true) × (plain ≡ true) × (good ≡ Read part bytes)
unfolding judged
judged-read true true false true place good part bytes e = (refl, refl, refl, e)
judged-read true true false false place good part bytes e = let clash : Has_bad_character place ≡ Read part bytes = e in cc
judged-read true true true plain place good part bytes e = let clash : Has_both_cases ≡ Read part bytes = e in cc
judged-read true false mixed plain place good part bytes e = let clash : Has_bad_part ≡ Read part bytes = e in cc
judged-read false front mixed plain place good part bytes e = let clash : Has_no_separator ≡ Read part bytes = e in cc

pub reads : (text part bytes : List ℕ) → reading text ≡ Read part bytes → Reads text part bytes
reads text part bytes e =
    let all = judged-read (list_any is_separator text) (is_part (part_of text)) (is_mixed text) (list_all is_character (data_of text))
    (length (part_of text) + 1 + prefix_len is_character (data_of text)) (checked (str_to_ascii_lowercase (part_of text)) (map value_of (data_of text)))
    part bytes (sym (reading-judged text) ∙ e) in
    record { some = all.0; front = all.1; plain = all.2; checks = all.3 }

-- what values that are read have
pub record Checks (part values : List ℕ) (first bytes : List ℕ) : Type 0 where
  pub six : 6 ≤ length values
  pub right : residue part values ≡ one
  pub same : first ≡ part
  pub whole : bytes ≡ whole_bytes (take (length values - 6) values)

pub checks_of : (part values first bytes : List ℕ) → checked part values ≡ Read first bytes → Checks part values first bytes
checks_of part values first bytes e =
    let good : Reading = Read part (whole_bytes (take (length values - 6) values)) in
    elim (cases_Bool (nat_le 6 (length values) && is_checked part values)) [
      | inl passes ↦
          let is : checked part values ≡ good = cond-true (nat_le 6 (length values) && is_checked part values) good Has_bad_checksum passes in
          let both : Read part (whole_bytes (take (length values - 6) values)) ≡ Read first bytes = sym is ∙ e in
          let parts : (nat_le 6 (length values) ≡ true) × (is_checked part values ≡ true) = and_parts (nat_le 6 (length values)) (is_checked part values) passes in
          record {
            six = leb-true 6 (length values) parts.0;
            right = (bytes_eq-Decides (residue part values) one).0 parts.1;
            same = (cc);
            whole = (cc);
          }
      | inr fails ↦
          let is : checked part values ≡ Has_bad_checksum = cond-false (nat_le 6 (length values) && is_checked part values) good Has_bad_checksum fails in
          let clash : Has_bad_checksum ≡ Read first bytes = sym is ∙ e in
          cc
    ]

-- a text round its last separator
pub record Split (text : List ℕ) : Type 0 where
  pub before : List ℕ
  pub behind : List ℕ
  pub whole : text ≡ before ++ 49 ∷ behind
  pub none : All (λ b. not (is_separator b) ≡ true) behind

none_behind : (xs : List ℕ) → list_any is_separator xs ≡ false → All (λ b. not (is_separator b) ≡ true) xs
none_behind [] e = All-nil (λ (b : ℕ). not (is_separator b) ≡ true)
none_behind (x ∷ xs) e =
    let parts : (is_separator x ≡ false) × (list_any is_separator xs ≡ false) = or_parts (is_separator x) (list_any is_separator xs) e in
    All-cons (λ (b : ℕ). not (is_separator b) ≡ true) x xs (not_from_false (is_separator x) parts.0) (none_behind xs parts.1)

pub split_of : (text : List ℕ) → list_any is_separator text ≡ true → Split text
split_of [] e = absurd (let clash : false ≡ true = e in cc)
split_of (x ∷ text) e = elim (cases_Bool (list_any is_separator text)) [
  | inl later ↦
      let s : Split text = split_of text later in
      record { before = x ∷ s.before; behind = s.behind; whole = ap (λ (xs : List ℕ). x ∷ xs) s.whole; none = s.none }
  | inr never ↦
      let here : is_separator x ≡ true = elim (cases_Bool (is_separator x)) [
        | inl is ↦ is
        | inr fails ↦
            let nowhere : list_any is_separator (x ∷ text) ≡ false = or_from (is_separator x) (list_any is_separator text) fails never in
            cc
      ] in
      record { before = []; behind = text; whole = ap (λ (y : ℕ). y ∷ text) (eqb-true x 49 here); none = none_behind text never }
]

pub encoding-reading : (text part bytes : List ℕ) → reading text ≡ Read part bytes
    → leftover_count (data_values text) < 5 → leftover (data_values text) ≡ 0
    → encoding part bytes ≡ str_to_ascii_lowercase text
unfolding spelling
encoding-reading text part bytes e few unset =
    let r : Reads text part bytes = reads text part bytes e in
    let s : Split text = split_of text r.some in
    let front : part_of text ≡ s.before = ap part_of s.whole ∙ part_of-at s.before 49 s.behind refl s.none in
    let behind : data_of text ≡ s.behind = ap data_of s.whole ∙ data_of-at s.before 49 s.behind refl s.none in
    let low : List ℕ = str_to_ascii_lowercase (part_of text) in
    let all : List ℕ = map value_of (data_of text) in
    let k : Checks low all part bytes = checks_of low all part bytes r.checks in
    let len : length all ≡ length (data_of text) = length-map (data_of text) value_of in
    let n : ℕ = length (data_of text) - 6 in
    let enough : 6 ≤ length all = k.six in
    let values : List ℕ = take n all in
    let sum : List ℕ = drop n all in
    let below : All (λ v. v < 32) all = values-lt (data_of text) r.plain in
    let values-below : All (λ v. v < 32) values = All-take (λ (v : ℕ). v < 32) n all below in
    let sum-below : All (λ v. v < 32) sum = All-drop (λ (v : ℕ). v < 32) n all below in
    let joined : values ++ sum ≡ all = take-append-drop n all in
    let short : length all - 6 ≡ n = ap (λ (j : ℕ). j - 6) len in
    let back : groups bytes ≡ values = ap groups (k.whole ∙ ap (λ (j : ℕ). whole_bytes (take j all)) short) ∙ groups-whole_bytes values values-below few unset in
    let bytes_of : (j : ℕ) → get_or low j 0 < 256 = part-bytes low (IsLowered-lowered (part_of text) r.front).visible in
    let six : length sum ≡ 6 = omega (arith, length-drop n all) in
    let checksum-is : sum ≡ checksum low values = checksum-from_residue low values bytes_of values-below sum six sum-below (ap (residue low) joined ∙ k.right) in
    let written : groups bytes ++ checksum part (groups bytes) ≡ all =
    ap (λ (xs : List ℕ). xs ++ checksum part xs) back ∙ ap (λ (p : List ℕ). values ++ checksum p values) k.same ∙ ap (λ (xs : List ℕ). values ++ xs) (sym checksum-is) ∙ joined in
    ap (λ (xs : List ℕ). part ++ 49 ∷ map character xs) written
    ∙ ap (λ (p : List ℕ). p ++ 49 ∷ map character all) k.same
    ∙ ap (λ (xs : List ℕ). low ++ 49 ∷ xs) (characters-values (data_of text) r.plain)
    ∙ ap (λ (xs : List ℕ). str_to_ascii_lowercase xs ++ 49 ∷ str_to_ascii_lowercase (data_of text)) front
    ∙ ap (λ (xs : List ℕ). str_to_ascii_lowercase s.before ++ 49 ∷ str_to_ascii_lowercase xs) behind
    ∙ sym (ap str_to_ascii_lowercase s.whole ∙ map-append to_ascii_lowercase s.before (49 ∷ s.behind))

-- ---- a changed character

-- what a text with the character x there is read by
pub record Residue (before front behind : List ℕ) (x : ℕ) : Type 0 where
  pub good : is_part before ≡ true
  pub plain : list_all is_character (front ++ x ∷ behind) ≡ true
  pub right : residue (str_to_ascii_lowercase before) (map value_of front ++ value_of x ∷ map value_of behind) ≡ one

not_separators : (xs : List ℕ) → All (λ b. b ≢ 49) xs → All (λ b. not (is_separator b) ≡ true) xs
not_separators [] h = All-nil (λ (b : ℕ). not (is_separator b) ≡ true)
not_separators (x ∷ xs) h =
    All-cons (λ (b : ℕ). not (is_separator b) ≡ true) x xs (not_from_false (is_separator x) (ne_eqb x 49 (All-head (λ (b : ℕ). b ≢ 49) x xs h)))
    (not_separators xs (All-tail (λ (b : ℕ). b ≢ 49) x xs h))

residue_of : (before front behind : List ℕ) (x : ℕ) (p b : List ℕ) → All (λ y. y ≢ 49) front → All (λ y. y ≢ 49) behind → x ≢ 49
    → reading (before ++ 49 ∷ (front ++ x ∷ behind)) ≡ Read p b → Residue before front behind x
residue_of before front behind x p b none_front none_after none e =
    let chars : List ℕ = front ++ x ∷ behind in
    let text : List ℕ = before ++ 49 ∷ chars in
    let clear : All (λ y. not (is_separator y) ≡ true) chars =
    not_separators chars (All-append (λ (y : ℕ). y ≢ 49) front (x ∷ behind) none_front (All-cons (λ (y : ℕ). y ≢ 49) x behind none none_after)) in
    let at : part_of text ≡ before = part_of-at before 49 chars refl clear in
    let after : data_of text ≡ chars = data_of-at before 49 chars refl clear in
    let r : Reads text p b = reads text p b e in
    let k : Checks (str_to_ascii_lowercase (part_of text)) (map value_of (data_of text)) p b =
    checks_of (str_to_ascii_lowercase (part_of text)) (map value_of (data_of text)) p b r.checks in
    record {
      good = ap is_part (sym at) ∙ r.front;
      plain = ap (list_all is_character) (sym after) ∙ r.plain;
      right = ap (residue (str_to_ascii_lowercase before)) (sym (ap (map value_of) after ∙ map-append value_of front (x ∷ behind)))
          ∙ ap (λ (xs : List ℕ). residue (str_to_ascii_lowercase xs) (map value_of (data_of text))) (sym at) ∙ k.right;
    }

same_values : (before front behind : List ℕ) (c d : ℕ) → Residue before front behind c → Residue before front behind d → value_of c ≡ value_of d
same_values before front behind c d rc rd =
    let low : List ℕ = str_to_ascii_lowercase before in
    let c_parts : (list_all is_character front ≡ true) × (list_all is_character (c ∷ behind) ≡ true) =
    and_parts (list_all is_character front) (list_all is_character (c ∷ behind)) (sym (list_all-append is_character front (c ∷ behind)) ∙ rc.plain) in
    let d_parts : (list_all is_character front ≡ true) × (list_all is_character (d ∷ behind) ≡ true) =
    and_parts (list_all is_character front) (list_all is_character (d ∷ behind)) (sym (list_all-append is_character front (d ∷ behind)) ∙ rd.plain) in
    let c_first : (is_character c ≡ true) × (list_all is_character behind ≡ true) = and_parts (is_character c) (list_all is_character behind) c_parts.1 in
    let d_first : (is_character d ≡ true) × (list_all is_character behind ≡ true) = and_parts (is_character d) (list_all is_character behind) d_parts.1 in
    same_value low (map value_of front) (map value_of behind) (value_of c) (value_of d) (part-bytes low (IsLowered-lowered before rc.good).visible)
    (values-lt front c_parts.0) (values-lt behind c_first.1) (value_of-lt c c_first.0) (value_of-lt d d_first.0) rc.right rd.right

pub changed-refused : (before front behind : List ℕ) (c d : ℕ) (part bytes other more : List ℕ) → All (λ b. b ≢ 49) front → All (λ b. b ≢ 49) behind → c ≢ 49 → d ≢ 49
    → value_of c ≢ value_of d
    → reading (before ++ 49 ∷ (front ++ c ∷ behind)) ≡ Read part bytes → reading (before ++ 49 ∷ (front ++ d ∷ behind)) ≡ Read other more → ⊥
changed-refused before front behind c d part bytes other more none_front none_after c_none d_none differ ec ed =
    differ (same_values before front behind c d (residue_of before front behind c part bytes none_front none_after c_none ec) (residue_of before front behind d other more none_front none_after d_none ed))
