-- One byte more of a header line or of a body, as the loops go.
use Rattle.std.proofs.Common.{◌≡◌, ◌≢◌, ℕ, ◌+◌, ◌-◌, ◌<◌, ◌≤◌, true, false, eqb, List, [], ◌∷◌, ◌++◌, length, get_or, take, drop, Some, None, refl, ap, ◌∙◌, arith}
use Rattle.std.proofs.lemmas.Bool.{ne_eqb, eq-eqb}
use Rattle.std.proofs.lemmas.List.{at_drop_more, at_drop_all, take_more, get_or-drop, length-drop}
use Rattle.base64.specs.declared.engine.general_purpose.GeneralPurpose.{GeneralPurpose}
use Rattle.base64.specs.GeneralPurpose.{decoded_of}
use Rattle.age_format.specs.private.Parse.{is_visible, words_from, lines_from}

-- ---- a header line

module _ (text : List ℕ) (i : ℕ) (word : List ℕ) (words : List (List ℕ)) (within : i < length text) where
  words_at_byte : words_from word words (drop i text) ≡ words_from word words (get_or text i 0 ∷ drop (i + 1) text)
  words_at_byte = at_drop_more (words_from word words) text i 0 within

  pub words_visible : is_visible (get_or text i 0) ≡ true → words_from word words (drop i text) ≡ words_from (word ++ get_or text i 0 ∷ []) words (drop (i + 1) text)
  unfolding words_from
  words_visible visible = words_at_byte ∙ rw visible refl

  pub words_empty : is_visible (get_or text i 0) ≡ false → eqb (length word) 0 ≡ true → words_from word words (drop i text) ≡ None
  unfolding words_from
  words_empty hidden empty = words_at_byte ∙ rw (hidden, empty) refl

  pub words_space : is_visible (get_or text i 0) ≡ false → eqb (length word) 0 ≡ false → get_or text i 0 ≡ 32
      → words_from word words (drop i text) ≡ words_from [] (words ++ word ∷ []) (drop (i + 1) text)
  unfolding words_from
  words_space hidden full is = words_at_byte ∙ rw (hidden, full, is) refl

  pub words_feed : is_visible (get_or text i 0) ≡ false → eqb (length word) 0 ≡ false → get_or text i 0 ≡ 10
      → words_from word words (drop i text) ≡ Some (words ++ word ∷ [], drop (i + 1) text)
  unfolding words_from
  words_feed hidden full is = words_at_byte ∙ rw (hidden, full, is) refl

  pub words_other : is_visible (get_or text i 0) ≡ false → eqb (length word) 0 ≡ false → get_or text i 0 ≢ 32 → get_or text i 0 ≢ 10
      → words_from word words (drop i text) ≡ None
  unfolding words_from
  words_other hidden full no_space no_feed = words_at_byte ∙ rw (hidden, full, ne_eqb _ 32 no_space, ne_eqb _ 10 no_feed) refl

pub words_out : (text : List ℕ) (i : ℕ) (word : List ℕ) (words : List (List ℕ)) → length text ≤ i → words_from word words (drop i text) ≡ None
unfolding words_from
words_out text i word words past = at_drop_all (words_from word words) text i past

-- ---- the lines of a body

module _ (engine : GeneralPurpose) (text : List ℕ) (i : ℕ) (body line : List ℕ) (within : i < length text) where
  lines_at_byte : lines_from engine body line (drop i text) ≡ lines_from engine body line (get_or text i 0 ∷ drop (i + 1) text)
  lines_at_byte = at_drop_more (lines_from engine body line) text i 0 within

  pub lines_long : get_or text i 0 ≢ 10 → length line ≡ 64 → lines_from engine body line (drop i text) ≡ None
  unfolding lines_from
  lines_long no_feed long = lines_at_byte ∙ rw (ne_eqb _ 10 no_feed, eq-eqb _ _ long) refl

  pub lines_more : get_or text i 0 ≢ 10 → length line ≢ 64 → lines_from engine body line (drop i text) ≡ lines_from engine body (line ++ get_or text i 0 ∷ []) (drop (i + 1) text)
  unfolding lines_from
  lines_more no_feed short = lines_at_byte ∙ rw (ne_eqb _ 10 no_feed, ne_eqb _ 64 short) refl

  pub lines_bad : get_or text i 0 ≡ 10 → decoded_of engine line ≡ None → lines_from engine body line (drop i text) ≡ None
  unfolding lines_from
  lines_bad is none = lines_at_byte ∙ rw (is, none) refl

  pub lines_last : (bytes : List ℕ) → get_or text i 0 ≡ 10 → decoded_of engine line ≡ Some bytes → length line ≢ 64 → lines_from engine body line (drop i text) ≡ Some (body ++ bytes, drop (i + 1) text)
  unfolding lines_from
  lines_last bytes is found short = lines_at_byte ∙ rw (is, found, ne_eqb _ 64 short) refl

  pub lines_next : (bytes : List ℕ) → get_or text i 0 ≡ 10 → decoded_of engine line ≡ Some bytes → length line ≡ 64 → lines_from engine body line (drop i text) ≡ lines_from engine (body ++ bytes) [] (drop (i + 1) text)
  unfolding lines_from
  lines_next bytes is found full = lines_at_byte ∙ rw (is, found, eq-eqb _ _ full) refl

pub lines_out : (engine : GeneralPurpose) (text : List ℕ) (i : ℕ) (body line : List ℕ) → length text ≤ i → lines_from engine body line (drop i text) ≡ None
unfolding lines_from
lines_out engine text i body line past = at_drop_all (lines_from engine body line) text i past

-- one byte more of a line
pub line_more : (text : List ℕ) (start i : ℕ) → start ≤ i → i < length text → take (i + 1 - start) (drop start text) ≡ take (i - start) (drop start text) ++ get_or text i 0 ∷ []
line_more text start i le lt =
    let count : i + 1 - start ≡ (i - start) + 1 = omega arith in
    let place : start + (i - start) ≡ i = omega arith in
    let within : i - start < length (drop start text) = omega (arith, length-drop start text) in
    let byte : get_or (drop start text) (i - start) 0 ≡ get_or text i 0 = get_or-drop start text (i - start) 0 ∙ ap (λ (k : ℕ). get_or text k 0) place in
    rw count (take_more (drop start text) (i - start) 0 within ∙ ap (λ (b : ℕ). take (i - start) (drop start text) ++ b ∷ []) byte)
