-- Each of the three cases is a front: what completes it to a spelling.
use Rattle.std.proofs.Common.{◌≡◌, ◌≢◌, ℕ, zero, suc, ◌+◌, ◌-◌, ◌*◌, ◌/◌, ◌%◌, ◌<◌, ◌≤◌, List, [], ◌∷◌, ◌++◌, length, replicate, refl, sym, ap, subst, ◌∙◌, append_assoc, inl, inr, arith}
use Rattle.std.specs.Prelude.{slice_index}
use Rattle.std.specs.List.{flat_map, AllByRecursion}
use Rattle.std.proofs.lemmas.Bool.{cases_lt}
use Rattle.std.proofs.lemmas.List.{append-nil, length-append, length-replicate}
use Rattle.base64.specs.Rfc4648.{encode_symbols}
use Rattle.age_format.specs.Stanza.{Stanza, IsStanza, IsFront, IsBytes, IsVisible, IsArbitraryString, alphabet, base64, body_lines, spelling}
use Rattle.age_format.specs.Front.{IsCharacter, IsPrefixPart, IsHeaderPart, IsBodyPart, IsFrontByCases}
use Rattle.age_format.proofs.Words.{All-push, before_space, behind_space, joined-push}
use Rattle.age_format.proofs.Lines.{body_lines-last, body_lines-full}
use Rattle.age_format.proofs.Fronts.{IsFullLine, before_feed}

-- ---- bytes that characters spell, four to three

pub record Spelled (text : List ℕ) (n : ℕ) : Type 0 where
  pub bytes : List ℕ
  pub are : IsBytes bytes
  pub spell : base64 bytes ≡ text
  pub count : length bytes ≡ 3 * n

group_index : (a b c d : ℕ) (rest : List ℕ) → IsBytes rest → a < 64 → b < 64 → c < 64 → d < 64 → IsBytes ((a * 4 + b / 16) ∷ (b % 16 * 16 + c / 4) ∷ (c % 4 * 64 + d) ∷ rest)
group_index a b c d rest h ha hb hc hd zero = omega arith
group_index a b c d rest h ha hb hc hd (suc zero) = omega arith
group_index a b c d rest h ha hb hc hd (suc (suc zero)) = omega arith
group_index a b c d rest h ha hb hc hd (suc (suc (suc i))) = h i

group_spells : (a b c d : ℕ) (rest : List ℕ) → a < 64 → b < 64 → c < 64 → d < 64
    → base64 ((a * 4 + b / 16) ∷ (b % 16 * 16 + c / 4) ∷ (c % 4 * 64 + d) ∷ rest) ≡ slice_index alphabet a ∷ slice_index alphabet b ∷ slice_index alphabet c ∷ slice_index alphabet d ∷ base64 rest
unfolding encode_symbols
group_spells a b c d rest ha hb hc hd =
    let first : (a * 4 + b / 16) / 4 ≡ a = omega arith in
    let second : (a * 4 + b / 16) % 4 * 16 + (b % 16 * 16 + c / 4) / 16 ≡ b = omega arith in
    let third : (b % 16 * 16 + c / 4) % 16 * 4 + (c % 4 * 64 + d) / 64 ≡ c = omega arith in
    let fourth : (c % 4 * 64 + d) % 64 ≡ d = omega arith in
    rw (first, second, third, fourth) refl

pub spelled : (n : ℕ) (text : List ℕ) → length text ≡ 4 * n → AllByRecursion IsCharacter text → Spelled text n
unfolding encode_symbols
spelled zero [] len all = record { bytes = []; are = λ i. omega arith; spell = refl; count = refl }
spelled zero (x ∷ xs) len all = absurd (omega arith)
spelled (suc n) [] len all = absurd (omega arith)
spelled (suc n) (x ∷ []) len all = absurd (omega arith)
spelled (suc n) (x ∷ y ∷ []) len all = absurd (omega arith)
spelled (suc n) (x ∷ y ∷ z ∷ []) len all = absurd (omega arith)
spelled (suc n) (x ∷ y ∷ z ∷ w ∷ text) len all =
    let hx = all.0 in
    let hy = all.1.0 in
    let hz = all.1.1.0 in
    let hw = all.1.1.1.0 in
    let rest = spelled n text (omega arith) all.1.1.1.1 in
    record {
      bytes = (hx.0 * 4 + hy.0 / 16) ∷ (hy.0 % 16 * 16 + hz.0 / 4) ∷ (hz.0 % 4 * 64 + hw.0) ∷ rest.bytes;
      are = group_index hx.0 hy.0 hz.0 hw.0 rest.bytes rest.are hx.1 hy.1 hz.1 hw.1;
      spell = group_spells hx.0 hy.0 hz.0 hw.0 rest.bytes hx.1 hy.1 hz.1 hw.1 ∙ rw (hx.2, hy.2, hz.2, hw.2, rest.spell) refl;
      count = let more = rest.count in omega arith;
    }

-- ---- a body that completes its last line

-- a body whose lines begin so, and what follows
pub record Completed (text : List ℕ) : Type 0 where
  pub bytes : List ℕ
  pub more : List ℕ
  pub are : IsBytes bytes
  pub some : more ≢ []
  pub lines_are : body_lines bytes ≡ text ++ more

IsBytes-append : (xs ys : List ℕ) → IsBytes xs → IsBytes ys → IsBytes (xs ++ ys)
IsBytes-append [] ys h k i = k i
IsBytes-append (x ∷ xs) ys h k zero = h 0
IsBytes-append (x ∷ xs) ys h k (suc i) = IsBytes-append xs ys (λ j. h (suc j)) k i

All-append : (xs ys : List ℕ) → AllByRecursion IsCharacter xs → AllByRecursion IsCharacter ys → AllByRecursion IsCharacter (xs ++ ys)
All-append [] ys h k = k
All-append (x ∷ xs) ys h k = (h.0, All-append xs ys h.1 k)

padding : (n : ℕ) → AllByRecursion IsCharacter (replicate n 65)
padding zero = tt
padding (suc n) = ((0, omega arith, refl), padding n)

feed_some : (xs ys : List ℕ) → xs ++ 10 ∷ ys ≢ []
feed_some [] ys e = cc
feed_some (x ∷ xs) ys e = cc

-- the last line is filled with `A` to a multiple of four
completed_last : (last : List ℕ) → length last ≤ 64 → AllByRecursion IsCharacter last → Completed last
unfolding encode_symbols
completed_last last within all =
    let n = (length last + 3) / 4 in
    let pad = replicate (4 * n - length last) 65 in
    let len : length (last ++ pad) ≡ 4 * n = omega (arith, length-append last pad, length-replicate {A = ℕ} (4 * n - length last) 65) in
    let made = spelled n (last ++ pad) len (All-append last pad all (padding (4 * n - length last))) in
    let chars : length (base64 made.bytes) ≡ 4 * n = ap length made.spell ∙ len in
    elim (cases_lt (4 * n) 64) [
      | inl short ↦ record {
        bytes = made.bytes;
        more = pad ++ 10 ∷ [];
        are = made.are;
        some = feed_some pad [];
        lines_are = body_lines-last made.bytes (omega arith) ∙ (ap (λ (t : List ℕ). t ++ 10 ∷ []) made.spell ∙ append_assoc last pad (10 ∷ []));
      }
      | inr full ↦
          let count : length made.bytes ≡ 48 = let c = made.count in omega arith in
          let none : body_lines [] ≡ 10 ∷ [] = refl in
          let lines : body_lines (made.bytes ++ []) ≡ base64 made.bytes ++ 10 ∷ body_lines [] = body_lines-full made.bytes [] count in
          record {
            bytes = made.bytes ++ [];
            more = pad ++ 10 ∷ 10 ∷ [];
            are = IsBytes-append made.bytes [] made.are (λ i. omega arith);
            some = feed_some pad (10 ∷ []);
            lines_are = lines ∙ (ap (λ (t : List ℕ). t ++ 10 ∷ 10 ∷ []) made.spell ∙ append_assoc last pad (10 ∷ 10 ∷ []));
          }
    ]

regroup : (line text more : List ℕ) → line ++ 10 ∷ (text ++ more) ≡ ((line ++ 10 ∷ []) ++ text) ++ more
regroup line text more = simp append_assoc

-- a full line more
completed_line : (line text : List ℕ) → IsFullLine line → Completed text → Completed (before_feed line ++ text)
completed_line line text full rest =
    let made = spelled 16 line full.0 full.1 in
    let count : length made.bytes ≡ 48 = made.count in
    record {
      bytes = made.bytes ++ rest.bytes;
      more = rest.more;
      are = IsBytes-append made.bytes rest.bytes made.are rest.are;
      some = rest.some;
      lines_are = body_lines-full made.bytes rest.bytes count ∙ (rw (made.spell, rest.lines_are) (regroup line text rest.more));
    }

pub completed : (lines : List (List ℕ)) (last : List ℕ) → AllByRecursion IsFullLine lines → length last ≤ 64 → AllByRecursion IsCharacter last → Completed (flat_map before_feed lines ++ last)
completed [] last full within all = completed_last last within all
completed (line ∷ lines) last full within all =
    subst Completed (sym (append_assoc (before_feed line) (flat_map before_feed lines) last)) (completed_line line (flat_map before_feed lines ++ last) full.0 (completed lines last full.1 within all))

-- ---- the three cases

-- a stanza of words without a body
wordy : List (List ℕ) → List ℕ → Stanza
wordy [] word = record { tag = word; args = []; body = [] }
wordy (w ∷ ws) word = record { tag = w; args = ws ++ word ∷ []; body = [] }

wordy_is : (words : List (List ℕ)) (word : List ℕ) → AllByRecursion IsArbitraryString words → IsArbitraryString word → IsStanza (wordy words word)
unfolding wordy
wordy_is [] word all h = record { tag = h; args = tt; body = λ i. omega arith }
wordy_is (w ∷ ws) word all h = record { tag = all.0; args = All-push IsArbitraryString ws word all.1 h; body = λ i. omega arith }

wordy_spelling : (words : List (List ℕ)) (word : List ℕ) → spelling (wordy words word) ≡ 45 ∷ 62 ∷ 32 ∷ (flat_map before_space words ++ (word ++ 10 ∷ 10 ∷ []))
unfolding wordy encode_symbols
wordy_spelling [] word = ap (λ (t : List ℕ). 45 ∷ 62 ∷ 32 ∷ (t ++ 10 ∷ 10 ∷ [])) (append-nil word)
wordy_spelling (w ∷ ws) word =
    ap (λ (t : List ℕ). 45 ∷ 62 ∷ 32 ∷ (t ++ 10 ∷ 10 ∷ [])) (joined-push (w ∷ ws) word)
    ∙ ap (λ (t : List ℕ). 45 ∷ 62 ∷ 32 ∷ t) (append_assoc (flat_map before_space (w ∷ ws)) word (10 ∷ 10 ∷ []))

tagged : (word : List ℕ) → AllByRecursion IsVisible word → IsArbitraryString (word ++ 97 ∷ [])
tagged [] v = ((λ e. absurd cc), ((omega arith, omega arith), tt))
tagged (b ∷ bs) v = ((λ e. absurd cc), (v.0, (tagged bs v.1).1))

header_front : (text : List ℕ) → IsHeaderPart text → IsFront text
header_front text h =
    let word = h.last ++ 97 ∷ [] in
    let spelled = wordy_spelling h.words word in
    let same : flat_map before_space h.words ++ ((h.last ++ 97 ∷ []) ++ 10 ∷ 10 ∷ []) ≡ (flat_map before_space h.words ++ h.last) ++ 97 ∷ 10 ∷ 10 ∷ [] = simp append_assoc in (
      wordy h.words word,
      97 ∷ 10 ∷ 10 ∷ [],
      wordy_is h.words word h.words_are (tagged h.last h.last_is),
      (λ e. absurd cc),
      spelled ∙ (ap (λ (t : List ℕ). 45 ∷ 62 ∷ 32 ∷ t) same ∙ ap (λ (t : List ℕ). t ++ 97 ∷ 10 ∷ 10 ∷ []) (sym h.text_is)),
    )

regrouped : (t a l r more : List ℕ) → (t ++ a) ++ 10 ∷ ((l ++ r) ++ more) ≡ (t ++ a ++ 10 ∷ l ++ r) ++ more
regrouped t a l r more = simp append_assoc

body_front : (text : List ℕ) → IsBodyPart text → IsFront text
body_front text h =
    let made = completed h.lines h.last h.lines_are h.last_is.0 h.last_is.1 in
    let s : Stanza = record { tag = h.tag; args = h.args; body = made.bytes } in (
      s,
      made.more,
      record { tag = h.tag_is; args = h.args_are; body = made.are },
      made.some,
      ap (λ (t : List ℕ). 45 ∷ 62 ∷ 32 ∷ ((h.tag ++ flat_map behind_space h.args) ++ 10 ∷ t)) made.lines_are
          ∙ (ap (λ (t : List ℕ). 45 ∷ 62 ∷ 32 ∷ t) (regrouped h.tag (flat_map behind_space h.args) (flat_map before_feed h.lines) h.last made.more) ∙ ap (λ (t : List ℕ). t ++ made.more) (sym h.text_is)),
    )

not_empty : (xs ys : List ℕ) → xs ++ 97 ∷ ys ≢ []
not_empty [] ys e = cc
not_empty (x ∷ xs) ys e = cc

prefix_front : (text : List ℕ) → IsPrefixPart text → IsFront text
unfolding encode_symbols
prefix_front text h =
    let s : Stanza = record { tag = 97 ∷ []; args = []; body = [] } in (
      s,
      h.0 ++ 97 ∷ 10 ∷ 10 ∷ [],
      record { tag = tagged [] tt; args = tt; body = λ i. omega arith },
      not_empty h.0 (10 ∷ 10 ∷ []),
      ap (λ (t : List ℕ). t ++ 97 ∷ 10 ∷ 10 ∷ []) (sym h.1) ∙ append_assoc text h.0 (97 ∷ 10 ∷ 10 ∷ []),
    )

pub cases_front : (text : List ℕ) → IsFrontByCases text → IsFront text
cases_front text (inl h) = prefix_front text h
cases_front text (inr (inl h)) = header_front text h
cases_front text (inr (inr h)) = body_front text h
