-- The scan of a text that goes on, and of a spelling.
use Rattle.std.proofs.Common.{◌≡◌, ◌≢◌, ℕ, zero, suc, ◌+◌, ◌-◌, ◌*◌, ◌/◌, ◌%◌, ◌<◌, ◌≤◌, Bool, true, false, cond, not, ◌||◌, ◌&&◌, eqb, leb, ltb, List, [], ◌∷◌, ◌++◌, length, get_or, take, drop, refl, sym, ap, subst, ◌∙◌, append_assoc, inl, inr, arith}
use Rattle.std.specs.Prelude.{slice_index}
use Rattle.std.specs.List.{flat_map, list_all, AllByRecursion}
use Rattle.std.proofs.Math.Seq.{take-add}
use Rattle.std.proofs.lemmas.Bool.{cases_lt, agree_below_at, ne_eqb, eqb-true, ltb-true, and_parts}
use Rattle.std.proofs.lemmas.Bool.Decides.{nat_tests}
use Rattle.std.proofs.lemmas.List.{append-nil, length-append, length-take, length-drop, take-append-drop, take_more, drop_more, take_all, take-append-le}
use Rattle.base64.specs.Rfc4648.{encode_symbols}
use Rattle.age_format.specs.declared.scan.Place.{Place}
use Rattle.age_format.specs.declared.scan.Place.TheVariants.{Start, Gap, Word, Line}
use Rattle.age_format.specs.declared.scan.Step.{Step}
use Rattle.age_format.specs.declared.scan.Step.TheVariants.{To, End, Bad}
use Rattle.age_format.specs.Stanza.{Stanza, IsStanza, IsFront, IsBytes, IsVisible, IsArbitraryString, alphabet, base64, body_lines, spelling}
use Rattle.age_format.specs.Front.{IsCharacter}
use Rattle.age_format.specs.private.Scan.{is_character, step, At, Whole, Broken, scan, IsScannedTo}
use Rattle.age_format.proofs.Cases.{IsBytes-append_right}
use Rattle.age_format.proofs.Words.{visible_passes, behind_space}
use Rattle.age_format.proofs.Lines.{character, length-base64, body_lines-last, body_lines-full, IsBytes-take}

-- ---- a text that goes on

pub scan-append : (at : Step) (text more : List ℕ) (place : Place) → scan at text ≡ At place → scan at (text ++ more) ≡ scan (To place) more
unfolding scan
scan-append (To p) [] more place e = let same : p ≡ place = cc in ap (λ (q : Place). scan (To q) more) same
scan-append (To p) (b ∷ bs) more place e = scan-append (step p b) bs more place e
scan-append End bs more place e = absurd cc
scan-append Bad bs more place e = absurd cc

pub scan-broken : (at : Step) (text more : List ℕ) → scan at text ≡ Broken → scan at (text ++ more) ≡ Broken
unfolding scan
scan-broken (To p) [] more e = absurd cc
scan-broken (To p) (b ∷ bs) more e = scan-broken (step p b) bs more e
scan-broken End bs more e = absurd cc
scan-broken Bad bs more e = refl

pub scan-whole : (at : Step) (text more rest : List ℕ) → scan at text ≡ Whole rest → scan at (text ++ more) ≡ Whole (rest ++ more)
unfolding scan
scan-whole (To p) [] more rest e = absurd cc
scan-whole (To p) (b ∷ bs) more rest e = scan-whole (step p b) bs more rest e
scan-whole End bs more rest e = let same : bs ≡ rest = cc in ap (λ (r : List ℕ). Whole (r ++ more)) same
scan-whole Bad bs more rest e = absurd cc

-- one byte of a text
scan-cons : (place : Place) (b : ℕ) (bs : List ℕ) (at : Step) → step place b ≡ at → scan (To place) (b ∷ bs) ≡ scan at bs
unfolding scan
scan-cons place b bs at e = ap (λ (x : Step). scan x bs) e

-- ---- how far a scan came

module _ (text : List ℕ) (seen : ℕ) (place : Place) (is : IsScannedTo text seen place) where
  -- the bytes from there on
  scan-rest : scan (To Start) text ≡ scan (To place) (drop seen text)
  scan-rest = ap (scan (To Start)) (sym (take-append-drop seen text)) ∙ scan-append (To Start) (take seen text) (drop seen text) place is.place_is

  scan-next : (at : Step) → seen < length text → step place (get_or text seen 0) ≡ at → scan (To Start) text ≡ scan at (drop (seen + 1) text)
  scan-next at within e = scan-rest ∙ (ap (scan (To place)) (drop_more text seen 0 within) ∙ scan-cons place (get_or text seen 0) (drop (seen + 1) text) at e)

  pub seen_more : (next : Place) → seen < length text → step place (get_or text seen 0) ≡ To next → IsScannedTo text (seen + 1) next
  unfolding scan
  seen_more next within e = record {
    within = omega arith;
    place_is = ap (scan (To Start)) (take_more text seen 0 within)
        ∙ (scan-append (To Start) (take seen text) (get_or text seen 0 ∷ []) place is.place_is ∙ scan-cons place (get_or text seen 0) [] (To next) e);
  }

  pub seen_whole : seen < length text → step place (get_or text seen 0) ≡ End → scan (To Start) text ≡ Whole (drop (seen + 1) text)
  unfolding scan
  seen_whole within e = scan-next End within e

  pub seen_broken : seen < length text → step place (get_or text seen 0) ≡ Bad → scan (To Start) text ≡ Broken
  unfolding scan
  seen_broken within e = scan-next Bad within e

  pub seen_run : (n : ℕ) (next : Place) → seen + n ≤ length text → scan (To place) (take n (drop seen text)) ≡ At next → IsScannedTo text (seen + n) next
  seen_run n next within e = record {
    within = within;
    place_is = ap (scan (To Start)) (take-add seen n text) ∙ (scan-append (To Start) (take seen text) (take n (drop seen text)) place is.place_is ∙ e);
  }

  -- a full line, where one begins
  pub seen_full_line : place ≡ Line 0 → (rest : List ℕ) → rest ≡ drop seen text → 65 ≤ length rest → scan (To (Line 0)) (take 65 rest) ≡ At (Line 0) → IsScannedTo text (seen + 65) place
  seen_full_line begins rest same within e =
      let len : 65 ≤ length (drop seen text) = subst (λ (t : List ℕ). 65 ≤ length t) same within in
      let here : scan (To place) (take 65 rest) ≡ At place = subst (λ (p : Place). scan (To p) (take 65 rest) ≡ At p) (sym begins) e in
      let scans : scan (To place) (take 65 (drop seen text)) ≡ At place = subst (λ (t : List ℕ). scan (To place) (take 65 t) ≡ At place) same here in
      seen_run 65 place (omega (arith, len, length-drop seen text)) scans

  pub seen_all : seen ≡ length text → scan (To Start) text ≡ At place
  seen_all all = ap (scan (To Start)) (sym (take_all seen text (omega arith))) ∙ is.place_is

  pub seen_longer : (more : List ℕ) → IsScannedTo (text ++ more) seen place
  seen_longer more = record {
    within = let le = is.within in omega (arith, length-append text more);
    place_is = ap (scan (To Start)) (take-append-le seen text more is.within) ∙ is.place_is;
  }

-- ---- the characters

passes_at : (k : ℕ) → k < 64 → is_character (slice_index alphabet k) ≡ true
passes_at k lt = agree_below_at (λ k. is_character (slice_index alphabet k)) (λ k. true) 64 k refl lt

pub character_passes : (c : ℕ) → IsCharacter c → is_character c ≡ true
character_passes c h = subst (λ (b : ℕ). is_character b ≡ true) h.2 (passes_at h.0 h.1)

pub character_no_feed : (c : ℕ) → IsCharacter c → c ≢ 10
character_no_feed c h = subst (λ (b : ℕ). b ≢ 10) h.2 (character h.0)

-- a character's number, by its range
number_of : ℕ → ℕ
number_of b = cond (leb b 43) 62 (cond (leb b 47) 63 (cond (leb b 57) (b + 4) (cond (leb b 90) (b - 65) (b - 71))))

is_numbered : ℕ → Bool
is_numbered b = not (is_character b) || (ltb (number_of b) 64 && eqb (slice_index alphabet (number_of b)) b)

pub character_below : (b : ℕ) → is_character b ≡ true → b < 256
character_below b e = grind (arith, nat_tests)

numbered : (b : ℕ) → is_character b ≡ true → (ltb (number_of b) 64 && eqb (slice_index alphabet (number_of b)) b) ≡ true
unfolding is_numbered number_of
numbered b e =
    let all : is_numbered b ≡ true = agree_below_at is_numbered (λ k. true) 256 b refl (character_below b e) in
    subst (λ (x : Bool). (not x || (ltb (number_of b) 64 && eqb (slice_index alphabet (number_of b)) b)) ≡ true) e all

pub passes_character : (b : ℕ) → is_character b ≡ true → IsCharacter b
passes_character b e =
    let both = and_parts (ltb (number_of b) 64) (eqb (slice_index alphabet (number_of b)) b) (numbered b e) in
    (number_of b, ltb-true _ _ both.0, eqb-true _ _ both.1)

at_number : (k : ℕ) → k < 64 → IsCharacter (slice_index alphabet k)
at_number k lt = (k, lt, refl)

pub base64_characters : (bytes : List ℕ) → IsBytes bytes → AllByRecursion IsCharacter (base64 bytes)
unfolding encode_symbols
base64_characters [] h = tt
base64_characters (a ∷ []) h =
    let ha : a < 256 = h 0 in
    (at_number (a / 4) (omega arith), (at_number (a % 4 * 16) (omega arith), tt))
base64_characters (a ∷ b ∷ []) h =
    let ha : a < 256 = h 0 in
    let hb : b < 256 = h 1 in
    (at_number (a / 4) (omega arith), (at_number (a % 4 * 16 + b / 16) (omega arith), (at_number (b % 16 * 4) (omega arith), tt)))
base64_characters (a ∷ b ∷ c ∷ rest) h =
    let ha : a < 256 = h 0 in
    let hb : b < 256 = h 1 in
    let hc : c < 256 = h 2 in
    (at_number (a / 4) (omega arith), (at_number (a % 4 * 16 + b / 16) (omega arith), (at_number (b % 16 * 4 + c / 64) (omega arith), (at_number (c % 64) (omega arith), base64_characters rest (λ i. h (suc (suc (suc i))))))))

-- ---- a spelling

word_steps : (b : ℕ) → IsVisible b → step Word b ≡ To Word
word_steps b v = rw (visible_passes b v) refl

gap_steps : (b : ℕ) → IsVisible b → step Gap b ≡ To Word
gap_steps b v = rw (visible_passes b v) refl

visible_run : (word text : List ℕ) → AllByRecursion IsVisible word → scan (To Word) (word ++ text) ≡ scan (To Word) text
unfolding scan
visible_run [] text v = refl
visible_run (b ∷ bs) text v = scan-cons Word b (bs ++ text) (To Word) (word_steps b v.0) ∙ visible_run bs text v.1

word_run : (word text : List ℕ) → IsArbitraryString word → scan (To Gap) (word ++ text) ≡ scan (To Word) text
unfolding scan
word_run [] text h = absurd (h.0 refl)
word_run (b ∷ bs) text h = scan-cons Gap b (bs ++ text) (To Word) (gap_steps b h.1.0) ∙ visible_run bs text h.1.1

args_run : (args : List (List ℕ)) (text : List ℕ) → AllByRecursion IsArbitraryString args → scan (To Word) (flat_map behind_space args ++ 10 ∷ text) ≡ scan (To (Line 0)) text
unfolding scan
args_run [] text all = refl
args_run (arg ∷ args) text all =
    ap (λ (t : List ℕ). scan (To Gap) t) (append_assoc arg (flat_map behind_space args) (10 ∷ text)) ∙ (word_run arg (flat_map behind_space args ++ 10 ∷ text) all.0 ∙ args_run args text all.1)

character_steps : (c n : ℕ) → IsCharacter c → n < 64 → step (Line n) c ≡ To (Line (n + 1))
character_steps c n h lt = let short : leb 64 n ≡ false = grind (arith, nat_tests) in rw (ne_eqb c 10 (character_no_feed c h), short, character_passes c h) refl

characters_run : (line text : List ℕ) (n : ℕ) → AllByRecursion IsCharacter line → n + length line ≤ 64 → scan (To (Line n)) (line ++ text) ≡ scan (To (Line (n + length line))) text
unfolding scan
characters_run [] text n all within = let same : n ≡ n + 0 = omega arith in ap (λ (k : ℕ). scan (To (Line k)) text) same
characters_run (c ∷ cs) text n all within =
    let same : n + 1 + length cs ≡ n + suc (length cs) = omega arith in
    scan-cons (Line n) c (cs ++ text) (To (Line (n + 1))) (character_steps c n all.0 (omega arith)) ∙ (characters_run cs text (n + 1) all.1 (omega arith) ∙ ap (λ (k : ℕ). scan (To (Line k)) text) same)

feed_ends : (n : ℕ) (text : List ℕ) → n < 64 → scan (To (Line n)) (10 ∷ text) ≡ Whole text
unfolding scan
feed_ends n text lt =
    let short : leb 64 n ≡ false = grind (arith, nat_tests) in
    let ends : step (Line n) 10 ≡ End = rw short refl in
    scan-cons (Line n) 10 text End ends

feed_goes_on : (n : ℕ) (text : List ℕ) → n ≡ 64 → scan (To (Line n)) (10 ∷ text) ≡ scan (To (Line 0)) text
unfolding scan
feed_goes_on n text full = ap (λ (k : ℕ). scan (To (Line k)) (10 ∷ text)) full

-- characters, as the test finds them
tested_characters : (line : List ℕ) → list_all is_character line ≡ true → AllByRecursion IsCharacter line
tested_characters [] e = tt
tested_characters (c ∷ cs) e =
    let both = and_parts (is_character c) (list_all is_character cs) e in
    (passes_character c both.0, tested_characters cs both.1)

full_line_scans : (line : List ℕ) → list_all is_character line ≡ true → length line ≡ 64 → scan (To (Line 0)) (line ++ 10 ∷ []) ≡ At (Line 0)
unfolding scan
full_line_scans line all full = characters_run line (10 ∷ []) 0 (tested_characters line all) (omega arith) ∙ feed_goes_on (0 + length line) [] (omega arith)

-- a full line and its line feed at the front of a text
pub full_line_begins : (text : List ℕ) → 65 ≤ length text → get_or text 64 0 ≡ 10 → list_all is_character (take 64 text) ≡ true → scan (To (Line 0)) (take 65 text) ≡ At (Line 0)
full_line_begins text within feed all =
    let cut : take 65 text ≡ take 64 text ++ get_or text 64 0 ∷ [] = take_more text 64 0 (omega arith) in
    let line : take 65 text ≡ take 64 text ++ 10 ∷ [] = cut ∙ ap (λ (b : ℕ). take 64 text ++ b ∷ []) feed in
    ap (scan (To (Line 0))) line ∙ full_line_scans (take 64 text) all (omega (arith, length-take 64 text))

one_line : (bytes rest : List ℕ) → length bytes < 48 → IsBytes bytes → scan (To (Line 0)) (body_lines bytes ++ rest) ≡ Whole rest
one_line bytes rest lt h =
    let len : length (base64 bytes) < 64 = omega (arith, length-base64 bytes) in
    let text : body_lines bytes ++ rest ≡ base64 bytes ++ 10 ∷ rest = rw (body_lines-last bytes len) (append_assoc (base64 bytes) (10 ∷ []) rest) in
    rw text (characters_run (base64 bytes) (10 ∷ rest) 0 (base64_characters bytes h) (omega arith) ∙ feed_ends (0 + length (base64 bytes)) rest (omega arith))

full_line : (front back rest : List ℕ) → length front ≡ 48 → IsBytes front → scan (To (Line 0)) (body_lines (front ++ back) ++ rest) ≡ scan (To (Line 0)) (body_lines back ++ rest)
full_line front back rest lt h =
    let len : length (base64 front) ≡ 64 = length-base64 front ∙ omega (arith, lt) in
    let text : body_lines (front ++ back) ++ rest ≡ base64 front ++ 10 ∷ (body_lines back ++ rest) = rw (body_lines-full front back lt) (append_assoc (base64 front) (10 ∷ body_lines back) rest) in
    rw text (characters_run (base64 front) (10 ∷ (body_lines back ++ rest)) 0 (base64_characters front h) (omega arith) ∙ feed_goes_on (0 + length (base64 front)) (body_lines back ++ rest) (omega arith))

lines_run : (n : ℕ) (bytes rest : List ℕ) → length bytes < 48 * n + 48 → IsBytes bytes → scan (To (Line 0)) (body_lines bytes ++ rest) ≡ Whole rest
lines_run zero bytes rest lt h = one_line bytes rest (omega arith) h
lines_run (suc n) bytes rest lt h =
    elim (cases_lt (length bytes) 48) [
      | inl short ↦ one_line bytes rest short h
      | inr long ↦
          let front = take 48 bytes in
          let back = drop 48 bytes in
          let whole : front ++ back ≡ bytes = take-append-drop 48 bytes in
          let full : length front ≡ 48 = omega (arith, length-take 48 bytes) in
          let again = lines_run n back rest (omega (arith, length-drop 48 bytes)) (IsBytes-append_right front back (rw whole h)) in
          subst (λ (t : List ℕ). scan (To (Line 0)) (body_lines t ++ rest) ≡ Whole rest) whole (full_line front back rest full (IsBytes-take 48 bytes h) ∙ again)
    ]

pub scan_spelling : (s : Stanza) (rest : List ℕ) → IsStanza s → scan (To Start) (spelling s ++ rest) ≡ Whole rest
unfolding scan
scan_spelling s rest is =
    let lines : List ℕ = body_lines s.body ++ rest in
    let text : s.tag ++ flat_map behind_space s.args ++ 10 ∷ body_lines s.body ++ rest ≡ s.tag ++ (flat_map behind_space s.args ++ 10 ∷ lines) = simp append_assoc in
    ap (λ (t : List ℕ). scan (To Gap) t) text
    ∙ (word_run s.tag (flat_map behind_space s.args ++ 10 ∷ lines) is.tag ∙ (args_run s.args lines is.args ∙ lines_run (length s.body) s.body rest (omega arith) is.body))

-- ---- what a scan shows

-- a scan that is broken shows no front and no spelling
pub broken_no_front : (text : List ℕ) → scan (To Start) text ≡ Broken → IsFront text → ⊥
broken_no_front text e front =
    let whole : scan (To Start) (spelling front.0 ++ []) ≡ Whole [] = scan_spelling front.0 [] front.2 in
    let same : spelling front.0 ++ [] ≡ text ++ front.1 = append-nil (spelling front.0) ∙ front.4 in
    let broken = scan-broken (To Start) text front.1 e in
    let both : Whole [] ≡ Broken = sym whole ∙ (ap (scan (To Start)) same ∙ broken) in
    absurd cc

pub broken_begins_none : (text : List ℕ) → scan (To Start) text ≡ Broken → (s : Stanza) (more : List ℕ) → IsStanza s → text ≢ spelling s ++ more
broken_begins_none text e s more is same =
    let both : Broken ≡ Whole more = sym e ∙ (ap (scan (To Start)) same ∙ scan_spelling s more is) in
    absurd cc

append_nil_right : (xs ys : List ℕ) → xs ++ ys ≡ [] → ys ≡ []
append_nil_right [] ys e = e
append_nil_right (x ∷ xs) ys e = absurd cc

-- nor does one that came to the end of a stanza show a front
pub whole_no_front : (text rest : List ℕ) → scan (To Start) text ≡ Whole rest → IsFront text → ⊥
whole_no_front text rest e front =
    let whole : scan (To Start) (spelling front.0 ++ []) ≡ Whole [] = scan_spelling front.0 [] front.2 in
    let same : spelling front.0 ++ [] ≡ text ++ front.1 = append-nil (spelling front.0) ∙ front.4 in
    let longer = scan-whole (To Start) text front.1 rest e in
    let both : Whole [] ≡ Whole (rest ++ front.1) = sym whole ∙ (ap (scan (To Start)) same ∙ longer) in
    let nil : [] ≡ rest ++ front.1 = cc in
    front.3 (append_nil_right rest front.1 (sym nil))
