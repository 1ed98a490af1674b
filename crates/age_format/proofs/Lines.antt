-- The lines of a body: what is read spells it, and what spells it is read.
use Rattle.std.proofs.Common.{◌≡◌, ◌≢◌, ℕ, zero, suc, ◌+◌, ◌*◌, ◌/◌, ◌%◌, ◌<◌, ◌≤◌, false, cond, eqb, List, [], ◌∷◌, ◌++◌, length, get_or, take, drop, Some, Result, Ok, Err, refl, sym, ap, subst, ◌∙◌, append_assoc, inl, inr, arith}
use Rattle.std.specs.Prelude.{slice_index, option_and_then}
use Rattle.std.specs.Result.{result_ok}
use Rattle.std.specs.List.{AllByRecursion, list_any}
use Rattle.std.proofs.lemmas.Bool.{cases_lt, eqb-true, eqb-false, ne_eqb, eq-eqb, or_parts}
use Rattle.std.proofs.lemmas.List.{append-nil, length-append, length-take, length-drop, take_at, drop_at, drop_more, take-append-drop, length_push}
use Rattle.std.proofs.lemmas.Option.{none-some, option_and_then_some}
use Rattle.base64.specs.Rfc4648.{encode_symbols}
use Rattle.base64.specs.GeneralPurpose.{IsStrict, encode_of, decode_of, decoded_of}
use Rattle.base64.proofs.Canonical.{encode_symbols-append}
use Rattle.base64.proofs.RoundTrip.{length-encode_symbols}
use Rattle.base64.proofs.EngineFacts.{decode_of-encode_of, decode_of_strict}
use Rattle.age_format.specs.Stanza.{IsBytes, alphabet, base64, lines_of, body_lines}
use Rattle.base64.specs.declared.engine.general_purpose.GeneralPurpose.{GeneralPurpose}
use Rattle.age_format.specs.private.Parse.{IsLineEngine, lines_from}
use Rattle.age_format.proofs.Cases.{chosen, some_parts, IsBytes-rest, IsBytes-push, IsBytes-append_right}

result_ok_some : {A E : Type 0} (r : Result A E) (x : A) → result_ok r ≡ Some x → r ≡ Ok x
result_ok_some (Ok y) x e = cc
result_ok_some (Err f) x e = absurd (none-some _ e)

-- ---- one line

module _ (engine : GeneralPurpose) (is_line : IsLineEngine engine) where
  pub encodes_as : (bytes : List ℕ) → encode_of engine bytes ≡ base64 bytes
  encodes_as bytes = rw (is_line.0, is_line.1.0) (append-nil (base64 bytes))

  strict : IsStrict engine
  strict = (is_line.1.1, rw is_line.1.2 is_line.1.0)

  pub line_decodes : (bytes : List ℕ) → IsBytes bytes → decoded_of engine (base64 bytes) ≡ Some bytes
  unfolding decoded_of
  line_decodes bytes h =
      let e : decode_of engine (base64 bytes) ≡ Ok bytes = subst (λ (t : List ℕ). decode_of engine t ≡ Ok bytes) (encodes_as bytes) (decode_of-encode_of engine bytes (rw is_line.1.2 is_line.1.0) h) in
      ap result_ok e

  pub line_spells : (line bytes : List ℕ) → IsBytes line → decoded_of engine line ≡ Some bytes → line ≡ base64 bytes
  unfolding decoded_of
  line_spells line bytes h e = decode_of_strict engine line bytes strict h (result_ok_some _ bytes e) ∙ encodes_as bytes

pub length-base64 : (bytes : List ℕ) → length (base64 bytes) ≡ (4 * length bytes + 2) / 3
length-base64 bytes = length-encode_symbols alphabet bytes

-- ---- no line feed among the characters

abbrev pub NoFeed : List ℕ → Type 0
NoFeed text = AllByRecursion (λ c. c ≢ 10) text

no_feed_at : (xs : List ℕ) → list_any (λ c. eqb c 10) xs ≡ false → (k : ℕ) → get_or xs k 0 ≢ 10
no_feed_at [] e k h = absurd (omega (arith, h))
no_feed_at (x ∷ xs) e zero h = eqb-false x 10 (or_parts (eqb x 10) _ e).0 h
no_feed_at (x ∷ xs) e (suc k) h = no_feed_at xs (or_parts (eqb x 10) _ e).1 k h

pub character : (k : ℕ) → slice_index alphabet k ≢ 10
character k = no_feed_at alphabet refl k

base64_no_feed : (bytes : List ℕ) → NoFeed (base64 bytes)
unfolding encode_symbols
base64_no_feed [] = tt
base64_no_feed (a ∷ []) = (character (a / 4), (character (a % 4 * 16), tt))
base64_no_feed (a ∷ b ∷ []) = (character (a / 4), (character (a % 4 * 16 + b / 16), (character (b % 16 * 4), tt)))
base64_no_feed (a ∷ b ∷ c ∷ rest) = (character (a / 4), (character (a % 4 * 16 + b / 16), (character (b % 16 * 4 + c / 64), (character (c % 64), base64_no_feed rest))))

-- ---- the lines of a body

pub body_lines-last : (bytes : List ℕ) → length (base64 bytes) < 64 → body_lines bytes ≡ base64 bytes ++ 10 ∷ []
body_lines-last bytes lt =
    let none : length (base64 bytes) / 64 ≡ 0 = omega arith in
    ap (λ (n : ℕ). lines_of n (base64 bytes)) none

pub body_lines-full : (bytes more : List ℕ) → length bytes ≡ 48 → body_lines (bytes ++ more) ≡ base64 bytes ++ 10 ∷ body_lines more
body_lines-full bytes more len =
    let line = base64 bytes in
    let others = base64 more in
    let full : length line ≡ 64 = length-base64 bytes ∙ omega (arith, len) in
    let both : base64 (bytes ++ more) ≡ line ++ others = encode_symbols-append alphabet bytes more (omega (arith, len)) in
    let count : length (line ++ others) / 64 ≡ suc (length others / 64) = omega (arith, length-append line others, full) in
    let front : take 64 (line ++ others) ≡ line = take_at line others 64 full in
    let back : drop 64 (line ++ others) ≡ others = drop_at line others 64 full in
    let cut : lines_of (suc (length others / 64)) (line ++ others) ≡ line ++ 10 ∷ lines_of (length others / 64) others = rw (front, back) refl in
    ap (λ (t : List ℕ). lines_of (length t / 64) t) both ∙ (ap (λ (n : ℕ). lines_of n (line ++ others)) count ∙ cut)

-- ---- what is read

-- the bytes behind those so far, and the text that spells them
pub record SpellsLines (text before whole rest : List ℕ) : Type 0 where
  pub more : List ℕ
  pub whole_is : whole ≡ before ++ more
  pub text_is : text ≡ body_lines more ++ rest

spells_full : (line bs before bytes whole rest : List ℕ) → line ≡ base64 bytes → length line ≡ 64 → SpellsLines bs (before ++ bytes) whole rest → SpellsLines (line ++ 10 ∷ bs) before whole rest
spells_full line bs before bytes whole rest is len h =
    let bytes_len : length bytes ≡ 48 = omega (arith, length-base64 bytes, ap length is) in
    record {
      more = bytes ++ h.more;
      whole_is = h.whole_is ∙ append_assoc before bytes h.more;
      text_is = rw (body_lines-full bytes h.more bytes_len, is) (ap (λ (t : List ℕ). base64 bytes ++ 10 ∷ t) h.text_is ∙ sym (append_assoc (base64 bytes) (10 ∷ body_lines h.more) rest));
    }

spells_last : (line bs before bytes whole rest : List ℕ) → line ≡ base64 bytes → length line < 64 → (before ++ bytes ≡ whole) × (bs ≡ rest) → SpellsLines (line ++ 10 ∷ bs) before whole rest
spells_last line bs before bytes whole rest is len same =
    let last = body_lines-last bytes (subst (λ (t : List ℕ). length t < 64) is len) in
    record {
      more = bytes;
      whole_is = sym same.0;
      text_is = rw (last, ← same.1, is) (sym (append_assoc (base64 bytes) (10 ∷ []) bs));
    }

pub IsBytes-take : (n : ℕ) (bytes : List ℕ) → IsBytes bytes → IsBytes (take n bytes)
IsBytes-take zero bytes h i = omega arith
IsBytes-take (suc n) [] h i = omega arith
IsBytes-take (suc n) (b ∷ bytes) h zero = h 0
IsBytes-take (suc n) (b ∷ bytes) h (suc i) = IsBytes-take n bytes (IsBytes-rest b bytes h) i

pub IsBytes-drop : (n : ℕ) (bytes : List ℕ) → IsBytes bytes → IsBytes (drop n bytes)
IsBytes-drop zero bytes h = h
IsBytes-drop (suc n) [] h = h
IsBytes-drop (suc n) (b ∷ bytes) h = IsBytes-drop n bytes (IsBytes-rest b bytes h)

module _ (engine : GeneralPurpose) (is_line : IsLineEngine engine) where
  -- at the end of a line
  at_feed : (bs line body whole rest : List ℕ) → IsBytes line → length line ≤ 64
      → option_and_then (λ bytes. cond (eqb (length line) 64) (lines_from engine (body ++ bytes) [] bs) (Some (body ++ bytes, bs))) (decoded_of engine line) ≡ Some (whole, rest)
      → ((body' whole' rest' : List ℕ) → lines_from engine body' [] bs ≡ Some (whole', rest') → SpellsLines bs body' whole' rest') → SpellsLines (line ++ 10 ∷ bs) body whole rest
  at_feed bs line body whole rest bytes within e again =
      option_and_then_some (λ bytes. cond (eqb (length line) 64) (lines_from engine (body ++ bytes) [] bs) (Some (body ++ bytes, bs))) (decoded_of engine line) (whole, rest) e
      (λ found decoded at. elim (chosen (eqb (length line) 64) _ _ _ at) [
        | inl full ↦ spells_full line bs body found whole rest (line_spells engine is_line line found bytes decoded) (eqb-true _ _ full.0) (again (body ++ found) whole rest full.1)
        | inr last ↦ spells_last line bs body found whole rest (line_spells engine is_line line found bytes decoded) (let ne = eqb-false _ _ last.0 in omega arith) (some_parts _ _ _ _ last.1)
      ])

  pub lines_sound : (text line body whole rest : List ℕ) → IsBytes line → IsBytes text → length line ≤ 64 → lines_from engine body line text ≡ Some (whole, rest) → SpellsLines (line ++ text) body whole rest
  unfolding lines_from
  lines_sound [] line body whole rest lb tb within e = absurd (none-some _ e)
  lines_sound (b ∷ bs) line body whole rest lb tb within e =
      let bsb = IsBytes-rest b bs tb in
      elim (chosen (eqb b 10) _ _ _ e) [
        | inl feed ↦ rw (eqb-true b 10 feed.0)
            (at_feed bs line body whole rest lb within feed.1 (λ body' whole' rest' e'. lines_sound bs [] body' whole' rest' (λ i. omega arith) bsb (omega arith) e'))
        | inr other ↦ elim (chosen (eqb (length line) 64) _ _ _ other.1) [
          | inl long ↦ absurd (none-some _ long.1)
          | inr short ↦
              let ne = eqb-false _ _ short.0 in
              rw (← append_assoc line (b ∷ []) bs) (lines_sound bs (line ++ b ∷ []) body whole rest (IsBytes-push line b lb (tb 0)) bsb (omega (arith, length_push line b)) short.1)
        ]
      ]

  -- ---- what is spelled

  lines_run : (run line body text : List ℕ) → NoFeed run → length line + length run ≤ 64 → lines_from engine body line (run ++ text) ≡ lines_from engine body (line ++ run) text
  unfolding lines_from
  lines_run [] line body text free within = ap (λ (t : List ℕ). lines_from engine body t text) (sym (append-nil line))
  lines_run (b ∷ bs) line body text free within =
      rw (ne_eqb b 10 free.0, ne_eqb (length line) 64 (omega arith))
      (lines_run bs (line ++ b ∷ []) body text free.1 (omega (arith, length_push line b)) ∙ ap (λ (t : List ℕ). lines_from engine body t text) (append_assoc line (b ∷ []) bs))

  feed_full : (line body bytes text : List ℕ) → decoded_of engine line ≡ Some bytes → length line ≡ 64 → lines_from engine body line (10 ∷ text) ≡ lines_from engine (body ++ bytes) [] text
  unfolding lines_from
  feed_full line body bytes text e len = rw (e, eq-eqb _ _ len) refl

  -- a full line at the front of a text is read at once
  pub full_line_front : (text body bytes : List ℕ) → IsBytes text → 64 < length text → get_or text 64 0 ≡ 10 → decoded_of engine (take 64 text) ≡ Some bytes
      → lines_from engine (body ++ bytes) [] (drop 65 text) ≡ lines_from engine body [] text
  full_line_front text body bytes tb within feed e =
      let line = take 64 text in
      let rest = drop 65 text in
      let len : length line ≡ 64 = omega (arith, length-take 64 text) in
      let is : line ≡ base64 bytes = line_spells engine is_line line bytes (IsBytes-take 64 text tb) e in
      let free : NoFeed line = subst NoFeed (sym is) (base64_no_feed bytes) in
      let behind : drop 64 text ≡ get_or text 64 0 ∷ rest = drop_more text 64 0 within in
      let cut : line ++ 10 ∷ rest ≡ text = ap (λ (b : ℕ). line ++ b ∷ rest) (sym feed) ∙ (ap (λ (t : List ℕ). line ++ t) (sym behind) ∙ take-append-drop 64 text) in
      sym (ap (lines_from engine body []) (sym cut) ∙ (lines_run line [] body (10 ∷ rest) free (omega (arith, len)) ∙ feed_full line body bytes rest e len))

  feed_last : (line body bytes text : List ℕ) → decoded_of engine line ≡ Some bytes → length line < 64 → lines_from engine body line (10 ∷ text) ≡ Some (body ++ bytes, text)
  unfolding lines_from
  feed_last line body bytes text e len = rw (e, ne_eqb (length line) 64 (omega arith)) refl

  one_line : (bytes body rest : List ℕ) → length bytes < 48 → IsBytes bytes → lines_from engine body [] (body_lines bytes ++ rest) ≡ Some (body ++ bytes, rest)
  one_line bytes body rest lt h =
      let len : length (base64 bytes) < 64 = omega (arith, length-base64 bytes) in
      let text : body_lines bytes ++ rest ≡ base64 bytes ++ 10 ∷ rest = rw (body_lines-last bytes len) (append_assoc (base64 bytes) (10 ∷ []) rest) in
      rw text (lines_run (base64 bytes) [] body (10 ∷ rest) (base64_no_feed bytes) (omega arith) ∙ feed_last (base64 bytes) body bytes rest (line_decodes engine is_line bytes h) len)

  full_line : (front back body rest : List ℕ) → length front ≡ 48 → IsBytes front → lines_from engine (body ++ front) [] (body_lines back ++ rest) ≡ Some ((body ++ front) ++ back, rest)
      → lines_from engine body [] (body_lines (front ++ back) ++ rest) ≡ Some (body ++ (front ++ back), rest)
  full_line front back body rest lt h again =
      let len : length (base64 front) ≡ 64 = length-base64 front ∙ omega (arith, lt) in
      let text : body_lines (front ++ back) ++ rest ≡ base64 front ++ 10 ∷ (body_lines back ++ rest) = rw (body_lines-full front back lt) (append_assoc (base64 front) (10 ∷ body_lines back) rest) in
      rw text (lines_run (base64 front) [] body (10 ∷ (body_lines back ++ rest)) (base64_no_feed front) (omega arith)
      ∙ (feed_full (base64 front) body front (body_lines back ++ rest) (line_decodes engine is_line front h) len
      ∙ (again ∙ ap (λ (t : List ℕ). Some (t, rest)) (append_assoc body front back))))

  pub lines_complete : (n : ℕ) (bytes body rest : List ℕ) → length bytes < 48 * n + 48 → IsBytes bytes → lines_from engine body [] (body_lines bytes ++ rest) ≡ Some (body ++ bytes, rest)
  lines_complete zero bytes body rest lt h = one_line bytes body rest (omega arith) h
  lines_complete (suc n) bytes body rest lt h =
      elim (cases_lt (length bytes) 48) [
        | inl short ↦ one_line bytes body rest short h
        | inr long ↦
            let front = take 48 bytes in
            let back = drop 48 bytes in
            let whole : front ++ back ≡ bytes = take-append-drop 48 bytes in
            let full : length front ≡ 48 = omega (arith, length-take 48 bytes) in
            let again = lines_complete n back (body ++ front) rest (omega (arith, length-drop 48 bytes)) (IsBytes-append_right front back (rw whole h)) in
            subst (λ (t : List ℕ). lines_from engine body [] (body_lines t ++ rest) ≡ Some (body ++ t, rest)) whole (full_line front back body rest full (IsBytes-take 48 bytes h) again)
      ]
