-- The body that chunks spell, by the one stanza under a header line.
use Rattle.std.proofs.Common.{◌≡◌, ◌≢◌, ℕ, List, [], ◌∷◌, ◌++◌, length, Option, Some, None, eqb, false, refl, sym, ap, subst, ◌∙◌, append_assoc, inl, inr, arith}
use Rattle.std.proofs.lemmas.List.{append-nil}
use Rattle.std.specs.Prelude.{MatchOption, IfOk, Result, Ok, Err}
use Rattle.age_format.specs.Stanza.{Stanza, IsStanza, IsBytes, body_lines, spelling}
use Rattle.age_format.specs.Strings.{BeginsWithHeader}
use Rattle.age_legacy.specs.Legacy.{AreLines}

-- the stanza `-> -` with a body
abbrev pub under_dash : List ℕ → Stanza
under_dash body = record { tag = 45 ∷ []; args = []; body = body }

-- a text behind its header line
abbrev pub dashed : List ℕ → List ℕ
dashed text = 45 ∷ 62 ∷ 32 ∷ 45 ∷ 10 ∷ text

pub is_dashed : (body : List ℕ) → IsBytes body → IsStanza (under_dash body)
is_dashed body bytes = record { tag = ((λ nil. absurd cc), ((omega arith, omega arith), tt)); args = tt; body = bytes }

not_nil : (xs : List ℕ) → eqb (length xs) 0 ≡ false → xs ≢ []
not_nil [] e h = absurd cc
not_nil (x ∷ xs) e h = cc

-- a further line feed
twice_is : (chunks once twice : List ℕ) → once ≡ dashed (chunks ++ 10 ∷ []) → twice ≡ once ++ 10 ∷ [] → twice ≡ dashed (chunks ++ 10 ∷ 10 ∷ [])
twice_is chunks once twice is next = next ∙ ap (λ (t : List ℕ). t ++ 10 ∷ []) is ∙ ap dashed (append_assoc chunks (10 ∷ []) (10 ∷ []))

-- ---- two bodies of one text

module _ (one_stanza : (s t : Stanza) (more rest : List ℕ) → IsStanza s → IsStanza t → spelling s ++ more ≡ spelling t ++ rest → s ≡ t) where
  same_lines : (body other more rest : List ℕ) → IsBytes body → IsBytes other → body_lines body ++ more ≡ body_lines other ++ rest → body ≡ other
  same_lines body other more rest h k e =
      ap (λ (s : Stanza). s.body) (one_stanza (under_dash body) (under_dash other) more rest (is_dashed body h) (is_dashed other k) (ap dashed e))

  fed_once : (chunks body other : List ℕ) → body_lines body ≡ chunks ++ 10 ∷ [] → body_lines other ≡ chunks ++ 10 ∷ 10 ∷ [] → body_lines body ++ 10 ∷ [] ≡ body_lines other ++ []
  fed_once chunks body other p q = ap (λ (t : List ℕ). t ++ 10 ∷ []) p ∙ append_assoc chunks (10 ∷ []) (10 ∷ []) ∙ sym q ∙ sym (append-nil (body_lines other))

  pub same_body : (chunks body other : List ℕ) → AreLines chunks body → AreLines chunks other → body ≡ other
  same_body chunks body other h k =
      elim h.lines [
        | inl p ↦ elim k.lines [
          | inl q ↦ same_lines body other [] [] h.is_bytes k.is_bytes (ap (λ (t : List ℕ). t ++ []) (p ∙ sym q))
          | inr q ↦ same_lines body other (10 ∷ []) [] h.is_bytes k.is_bytes (fed_once chunks body other p q)
        ]
        | inr p ↦ elim k.lines [
          | inl q ↦ same_lines body other [] (10 ∷ []) h.is_bytes k.is_bytes (sym (fed_once chunks other body q p))
          | inr q ↦ same_lines body other [] [] h.is_bytes k.is_bytes (ap (λ (t : List ℕ). t ++ []) (p ∙ sym q))
        ]
      ]

-- ---- what a stanza under the line spells

-- the line begins what stands behind it
dash_begins : (text : List ℕ) → BeginsWithHeader (dashed text) (under_dash []) text
dash_begins text = record { whole = refl; is_stanza = is_dashed [] (λ i. omega arith); no_body = refl }

-- a stanza's header line begins its spelling
header_begins : (s : Stanza) → IsStanza s → BeginsWithHeader (spelling s) (record s { body = [] }) (body_lines s.body)
header_begins s is = record { whole = refl; is_stanza = record { tag = is.tag; args = is.args; body = λ i. omega arith }; no_body = refl }

module _ (one_header : (text : List ℕ) (one other : Stanza) (behind rest : List ℕ) → BeginsWithHeader text one behind → BeginsWithHeader text other rest → (one ≡ other) × (behind ≡ rest)) where
  -- a stanza that is spelled under the line has the lines that stand there
  lines_spelled : (text : List ℕ) (s : Stanza) → IsStanza s → dashed text ≡ spelling s → body_lines s.body ≡ text
  lines_spelled text s is e =
      (one_header (dashed text) (record s { body = [] }) (under_dash []) (body_lines s.body) text
      (subst (λ (t : List ℕ). BeginsWithHeader t (record s { body = [] }) (body_lines s.body)) (sym e) (header_begins s is)) (dash_begins text)).1

  -- found with one line feed
  pub fed_lines : (chunks text body : List ℕ) → eqb (length chunks) 0 ≡ false → text ≡ dashed (chunks ++ 10 ∷ [])
      → ((s : Stanza) × IsStanza s × (text ≡ spelling s) × (s.body ≡ body)) → AreLines chunks body
  fed_lines chunks text body some is found =
      subst (λ (b : List ℕ). AreLines chunks b) found.3 (record {
        some = not_nil chunks some;
        is_bytes = found.1.body;
        lines = inl (lines_spelled (chunks ++ 10 ∷ []) found.0 found.1 (sym is ∙ found.2));
      })

  -- the last answer: found with two, or with none
  pub last_answer : {V E : Type 0} (items : V → List ℕ) (chunks once twice : List ℕ) (r : Result (Option V) E) → eqb (length chunks) 0 ≡ false
      → once ≡ dashed (chunks ++ 10 ∷ []) → twice ≡ once ++ 10 ∷ [] → ((s : Stanza) → IsStanza s → once ≢ spelling s)
      → IfOk r (λ found. MatchOption found ((s : Stanza) → IsStanza s → twice ≢ spelling s) (λ v. (s : Stanza) × IsStanza s × (twice ≡ spelling s) × (s.body ≡ items v)))
      → IfOk r (λ found. MatchOption found ((body : List ℕ) → AreLines chunks body → ⊥) (λ v. AreLines chunks (items v)))
  last_answer items chunks once twice (Err e) some is next never h = tt
  last_answer items chunks once twice (Ok None) some is next never none = λ body h.
      elim h.lines [
        | inl lines ↦ never (under_dash body) (is_dashed body h.is_bytes) (is ∙ ap dashed (sym lines))
        | inr lines ↦ none (under_dash body) (is_dashed body h.is_bytes) (twice_is chunks once twice is next ∙ ap dashed (sym lines))
      ]
  last_answer items chunks once twice (Ok (Some v)) some is next never found =
      subst (λ (b : List ℕ). AreLines chunks b) found.3 (record {
        some = not_nil chunks some;
        is_bytes = found.1.body;
        lines = inr (lines_spelled (chunks ++ 10 ∷ 10 ∷ []) found.0 found.1 (sym (twice_is chunks once twice is next) ∙ found.2));
      })
