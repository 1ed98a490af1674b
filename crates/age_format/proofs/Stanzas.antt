-- One stanza at the front of a text: what is read spells it, and what spells it is read.
use Rattle.std.proofs.Common.{◌≡◌, ◌≢◌, ℕ, ◌<◌, Bool, true, false, cond, List, [], ◌∷◌, ◌++◌, length, take, drop, get_or, map, Option, Some, None, refl, sym, ap, subst, ◌∙◌, append_assoc, inl, inr, arith}
use Rattle.std.specs.Prelude.{codes, remove}
use Rattle.std.specs.Str.{bytes_eq}
use Rattle.std.specs.List.{flat_map, AllByRecursion}
use Rattle.std.proofs.lemmas.List.{append-nil, length-append, take-append-drop}
use Rattle.std.proofs.lemmas.Option.{none-some}
use Rattle.std.proofs.lemmas.Slice.Eq.{bytes_eq-Decides}
use Rattle.std.proofs.lemmas.List.Concat.{flat_map-append}
use Rattle.base64.specs.Engines.{standard_no_pad}
use Rattle.age_format.specs.Stanza.{Stanza, IsStanza, IsBytes, IsArbitraryString, body_lines, spelling}
use Rattle.base64.specs.declared.engine.general_purpose.GeneralPurpose.{GeneralPurpose}
use Rattle.age_format.specs.private.Parse.{IsLineEngine, words_from, lines_from, header_from, header_behind, header_read, with_lines, with_body, stanza_from, stanza_behind, stanza_read}
use Rattle.age_format.specs.Strings.{BeginsWithHeader}
use Rattle.age_format.proofs.Cases.{chosen, some_parts, IsBytes-rest, IsBytes-append_right}
use Rattle.age_format.proofs.Words.{joined, behind_space, SpellsWords, words_sound, words_complete}
use Rattle.age_format.proofs.Lines.{lines_sound, lines_complete}

-- what was read is the stanza, and what spells it
pub record SpellsStanza (text : List ℕ) (s : Stanza) (rest : List ℕ) : Type 0 where
  pub text_is : text ≡ spelling s ++ rest
  pub tag : IsArbitraryString s.tag
  pub args : AllByRecursion IsArbitraryString s.args

behind_sound : (text : List ℕ) (words : List (List ℕ)) (lines body : List ℕ) (s : Stanza) (rest rest' : List ℕ)
    → SpellsWords text words lines → lines ≡ body_lines body ++ rest' → stanza_from words (Some (body, rest')) ≡ Some (s, rest) → SpellsStanza (45 ∷ 62 ∷ 32 ∷ text) s rest
behind_sound text [] lines body s rest rest' w l e = absurd (none-some _ e)
behind_sound text (tag ∷ args) lines body s rest rest' w l e =
    let made : Stanza = record { tag = tag; args = args; body = body } in
    let same = some_parts made s rest' rest e in
    let whole : text ≡ joined (tag ∷ args) ++ 10 ∷ (body_lines body ++ rest') = w.text_is ∙ ap (λ (t : List ℕ). joined (tag ∷ args) ++ 10 ∷ t) l in
    let regrouped : joined (tag ∷ args) ++ 10 ∷ (body_lines body ++ rest') ≡ tag ++ flat_map behind_space args ++ 10 ∷ body_lines body ++ rest' = simp append_assoc in
    let read : SpellsStanza (45 ∷ 62 ∷ 32 ∷ text) made rest' = record { text_is = ap (λ (t : List ℕ). 45 ∷ 62 ∷ 32 ∷ t) (whole ∙ regrouped); tag = w.each.0; args = w.each.1 } in
    subst (λ (t : List ℕ). SpellsStanza (45 ∷ 62 ∷ 32 ∷ text) s t) same.1 (subst (λ (t : Stanza). SpellsStanza (45 ∷ 62 ∷ 32 ∷ text) t rest') same.0 read)

-- behind `-> `
prefixed : (text : List ℕ) → bytes_eq (take 3 text) (codes "-> ") ≡ true → text ≡ 45 ∷ 62 ∷ 32 ∷ drop 3 text
prefixed text e = sym (take-append-drop 3 text) ∙ ap (λ (t : List ℕ). t ++ drop 3 text) ((bytes_eq-Decides (take 3 text) (codes "-> ")).0 e)

module _ (engine : GeneralPurpose) (is_line : IsLineEngine engine) where
  pub stanza_complete : (s : Stanza) (rest : List ℕ) → IsStanza s → stanza_read engine (spelling s ++ rest) ≡ Some (s, rest)
  unfolding stanza_read stanza_behind
  stanza_complete s rest is =
      let lines : List ℕ = body_lines s.body ++ rest in
      let words = words_complete s.args [] s.tag lines is.tag is.args in
      let body = lines_complete engine is_line (length s.body) s.body [] rest (omega arith) is.body in
      let text : s.tag ++ flat_map behind_space s.args ++ 10 ∷ body_lines s.body ++ rest ≡ s.tag ++ (flat_map behind_space s.args ++ 10 ∷ lines) = simp append_assoc in
      rw (text, words, body) refl

  lines_behind : (text : List ℕ) (words : List (List ℕ)) (lines : List ℕ) (read : Option (List ℕ × List ℕ)) (s : Stanza) (rest : List ℕ) → IsBytes lines → SpellsWords text words lines
      → lines_from engine [] [] lines ≡ read → stanza_from words read ≡ Some (s, rest) → SpellsStanza (45 ∷ 62 ∷ 32 ∷ text) s rest
  lines_behind text [] lines read s rest b w l e = absurd (none-some _ e)
  lines_behind text (tag ∷ args) lines None s rest b w l e = absurd (none-some _ e)
  lines_behind text (tag ∷ args) lines (Some found) s rest b w l e =
      let spelled = lines_sound engine is_line lines [] [] found.0 found.1 (λ i. omega arith) b (omega arith) l in
      let body : lines ≡ body_lines found.0 ++ found.1 = subst (λ (t : List ℕ). lines ≡ body_lines t ++ found.1) (sym spelled.whole_is) spelled.text_is in
      behind_sound text (tag ∷ args) lines found.0 s rest found.1 w body e

  words_behind : (text : List ℕ) (read : Option (List (List ℕ) × List ℕ)) (s : Stanza) (rest : List ℕ) → IsBytes text → words_from [] [] text ≡ read → stanza_behind engine read ≡ Some (s, rest) → SpellsStanza (45 ∷ 62 ∷ 32 ∷ text) s rest
  unfolding stanza_behind
  words_behind text None s rest b w e = absurd (none-some _ e)
  words_behind text (Some found) s rest b w e =
      let spelled = words_sound text [] [] found.0 found.1 w tt tt in
      let lines : IsBytes found.1 = IsBytes-rest 10 found.1 (IsBytes-append_right (joined found.0) (10 ∷ found.1) (subst IsBytes spelled.text_is b)) in
      lines_behind text found.0 found.1 (lines_from engine [] [] found.1) s rest lines spelled refl e

  pub stanza_sound : (text : List ℕ) (s : Stanza) (rest : List ℕ) → IsBytes text → stanza_read engine text ≡ Some (s, rest) → SpellsStanza text s rest
  unfolding stanza_read
  stanza_sound text s rest b e =
      elim (chosen (bytes_eq (take 3 text) (codes "-> ")) _ _ _ e) [
        | inl prefix ↦
            let is = prefixed text prefix.0 in
            let behind : IsBytes (drop 3 text) = IsBytes-append_right (45 ∷ 62 ∷ 32 ∷ []) (drop 3 text) (subst IsBytes is b) in
            subst (λ (t : List ℕ). SpellsStanza t s rest) (sym is) (words_behind (drop 3 text) (words_from [] [] (drop 3 text)) s rest behind refl prefix.1)
        | inr other ↦ absurd (none-some _ other.1)
      ]

  -- no spelling begins what is no stanza
  pub none_begins : (text : List ℕ) → stanza_read engine text ≡ None → (s : Stanza) (more : List ℕ) → IsStanza s → text ≢ spelling s ++ more
  none_begins text none s more is e = none-some _ (sym none ∙ (ap (stanza_read engine) e ∙ stanza_complete s more is))

  -- the one stanza and the one rest
  pub same_stanza : (s t : Stanza) (more rest : List ℕ) → IsStanza s → IsStanza t → spelling s ++ more ≡ spelling t ++ rest → (s ≡ t) × (more ≡ rest)
  same_stanza s t more rest h k e = some_parts s t more rest (sym (stanza_complete s more h) ∙ (ap (stanza_read engine) e ∙ stanza_complete t rest k))

-- ---- a header line, as the code finds it

-- the first word, and those after it
pub split_first : {X : Type 0} (f : X → List ℕ) (xs : List X) (x : X) (ys : List X) → 0 < length xs → x ≡ get_or xs 0 x → ys ≡ remove xs 0 → map f xs ≡ f x ∷ map f ys
split_first f [] x ys lt first others = absurd (omega (arith, lt))
split_first f (z ∷ zs) x ys lt first others = rw (first, others) refl

pub no_header : (text : List ℕ) → bytes_eq (take 3 text) (codes "-> ") ≡ false → header_read text ≡ None
unfolding header_read
no_header text e = rw e refl

module _ (text behind : List ℕ) (starts : bytes_eq (take 3 text) (codes "-> ") ≡ true) (is : behind ≡ drop 3 text) where
  reads_behind : header_read text ≡ header_behind (words_from [] [] behind)
  unfolding header_read
  reads_behind = rw (starts, is) refl

  pub reads_no_words : None ≡ words_from [] [] behind → header_read text ≡ None
  reads_no_words none = reads_behind ∙ rw (← none) refl

  pub reads_no_tag : (words : List (List ℕ)) (after : List ℕ) → words ≡ [] → Some (words, after) ≡ words_from [] [] behind → header_read text ≡ None
  reads_no_tag words after nil found = reads_behind ∙ rw (← found, nil) refl

  pub reads_header : (words : List (List ℕ)) (after tag : List ℕ) (args : List (List ℕ)) → words ≡ tag ∷ args → Some (words, after) ≡ words_from [] [] behind
      → header_read text ≡ Some (record { tag = tag; args = args; body = [] }, after)
  reads_header words after tag args cons found = reads_behind ∙ rw (← found, cons) refl

-- ---- a stanza by its header

by_lines : (tag : List ℕ) (args : List (List ℕ)) (read : Option (List ℕ × List ℕ)) → stanza_from (tag ∷ args) read ≡ with_lines (record { tag = tag; args = args; body = [] }) read
by_lines tag args None = refl
by_lines tag args (Some read) = refl

by_words : (engine : GeneralPurpose) (words : List (List ℕ)) (after : List ℕ) → stanza_from words (lines_from engine [] [] after) ≡ with_body engine (header_from words after)
by_words engine [] after = refl
by_words engine (tag ∷ args) after = by_lines tag args (lines_from engine [] [] after)

by_read : (engine : GeneralPurpose) (words : Option (List (List ℕ) × List ℕ)) → stanza_behind engine words ≡ with_body engine (header_behind words)
unfolding stanza_behind
by_read engine None = refl
by_read engine (Some words) = by_words engine words.0 words.1

by_start : (engine : GeneralPurpose) (starts : Bool) (words : Option (List (List ℕ) × List ℕ))
    → cond starts (stanza_behind engine words) None ≡ with_body engine (cond starts (header_behind words) None)
by_start engine true words = by_read engine words
by_start engine false words = refl

pub stanza_by_header : (engine : GeneralPurpose) (text : List ℕ) → stanza_read engine text ≡ with_body engine (header_read text)
unfolding stanza_read header_read
stanza_by_header engine text = by_start engine (bytes_eq (take 3 text) (codes "-> ")) (words_from [] [] (drop 3 text))

-- ---- what is read is a header line, and a header line is read

header_spelled : (text : List ℕ) (words : List (List ℕ)) (after : List ℕ) (header : Stanza) (behind : List ℕ)
    → SpellsWords text words after → header_from words after ≡ Some (header, behind) → BeginsWithHeader (45 ∷ 62 ∷ 32 ∷ text) header behind
header_spelled text [] after header behind w e = absurd (none-some _ e)
header_spelled text (tag ∷ args) after header behind w e =
    let made : Stanza = record { tag = tag; args = args; body = [] } in
    let same = some_parts made header after behind e in
    let regrouped : joined (tag ∷ args) ++ 10 ∷ after ≡ tag ++ flat_map behind_space args ++ 10 ∷ after = simp append_assoc in
    let read : BeginsWithHeader (45 ∷ 62 ∷ 32 ∷ text) made after = record {
      whole = ap (λ (t : List ℕ). 45 ∷ 62 ∷ 32 ∷ t) (w.text_is ∙ regrouped);
      is_stanza = record { tag = w.each.0; args = w.each.1; body = λ i. omega arith };
      no_body = refl;
    } in
    subst (λ (t : List ℕ). BeginsWithHeader (45 ∷ 62 ∷ 32 ∷ text) header t) same.1 (subst (λ (t : Stanza). BeginsWithHeader (45 ∷ 62 ∷ 32 ∷ text) t after) same.0 read)

header_words : (text : List ℕ) (read : Option (List (List ℕ) × List ℕ)) (header : Stanza) (behind : List ℕ) → words_from [] [] text ≡ read
    → header_behind read ≡ Some (header, behind) → BeginsWithHeader (45 ∷ 62 ∷ 32 ∷ text) header behind
header_words text None header behind w e = absurd (none-some _ e)
header_words text (Some found) header behind w e = header_spelled text found.0 found.1 header behind (words_sound text [] [] found.0 found.1 w tt tt) e

pub header_sound : (text : List ℕ) (header : Stanza) (behind : List ℕ) → header_read text ≡ Some (header, behind) → BeginsWithHeader text header behind
unfolding header_read
header_sound text header behind e =
    elim (chosen (bytes_eq (take 3 text) (codes "-> ")) _ _ _ e) [
      | inl prefix ↦ subst (λ (t : List ℕ). BeginsWithHeader t header behind) (sym (prefixed text prefix.0)) (header_words (drop 3 text) (words_from [] [] (drop 3 text)) header behind refl prefix.1)
      | inr other ↦ absurd (none-some _ other.1)
    ]

header_parts : (tag : List ℕ) (args : List (List ℕ)) (body behind : List ℕ) → IsArbitraryString tag → AllByRecursion IsArbitraryString args → body ≡ []
    → header_read (45 ∷ 62 ∷ 32 ∷ (tag ++ (flat_map behind_space args ++ 10 ∷ behind))) ≡ Some (record { tag = tag; args = args; body = body }, behind)
unfolding header_read
header_parts tag args body behind is all none = rw (words_complete args [] tag behind is all, none) refl

pub header_complete : (text : List ℕ) (header : Stanza) (behind : List ℕ) → BeginsWithHeader text header behind → header_read text ≡ Some (header, behind)
header_complete text header behind h =
    let regrouped : header.tag ++ flat_map behind_space header.args ++ 10 ∷ behind ≡ header.tag ++ (flat_map behind_space header.args ++ 10 ∷ behind) = append_assoc header.tag (flat_map behind_space header.args) (10 ∷ behind) in
    ap header_read (h.whole ∙ ap (λ (t : List ℕ). 45 ∷ 62 ∷ 32 ∷ t) regrouped) ∙ header_parts header.tag header.args header.body behind h.is_stanza.tag h.is_stanza.args h.no_body

pub same_header : (text : List ℕ) (header other : Stanza) (behind rest : List ℕ) → BeginsWithHeader text header behind → BeginsWithHeader text other rest → (header ≡ other) × (behind ≡ rest)
same_header text header other behind rest h k = some_parts header other behind rest (sym (header_complete text header behind h) ∙ header_complete text other rest k)

-- ---- what the readings rest on, whatever the engine

-- an engine of the alphabet
pub standard_is : IsLineEngine standard_no_pad
standard_is = (refl, (refl, refl, refl))

pub the_same_stanza : (s t : Stanza) (more rest : List ℕ) → IsStanza s → IsStanza t → spelling s ++ more ≡ spelling t ++ rest → (s ≡ t) × (more ≡ rest)
the_same_stanza = same_stanza standard_no_pad standard_is

-- one stanza more of a list
pub each-push : (stanzas : List Stanza) (s : Stanza) → AllByRecursion IsStanza stanzas → IsStanza s → AllByRecursion IsStanza (stanzas ++ s ∷ [])
each-push [] s h p = (p, tt)
each-push (x ∷ xs) s h p = (h.0, each-push xs s h.1 p)

pub whole-push : (text : List ℕ) (stanzas : List Stanza) (s : Stanza) (rest after : List ℕ) → text ≡ flat_map spelling stanzas ++ rest → rest ≡ spelling s ++ after → text ≡ flat_map spelling (stanzas ++ s ∷ []) ++ after
whole-push text stanzas s rest after whole more =
    whole ∙ (ap (λ (t : List ℕ). flat_map spelling stanzas ++ t) more ∙ (sym (append_assoc (flat_map spelling stanzas) (spelling s) after)
    ∙ ap (λ (t : List ℕ). t ++ after) (ap (λ (t : List ℕ). flat_map spelling stanzas ++ t) (sym (append-nil (spelling s))) ∙ sym (flat_map-append spelling stanzas (s ∷ [])))))

pub shorter : (text : List ℕ) (s : Stanza) (rest : List ℕ) → SpellsStanza text s rest → length rest < length text
shorter text s rest h = omega (arith, ap length h.text_is, length-append (spelling s) rest)
