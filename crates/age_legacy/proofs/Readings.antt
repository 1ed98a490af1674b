-- A text has one legacy reading.
use Rattle.std.proofs.Common.{◌≡◌, ℕ, List, ◌∷◌, ◌++◌, refl, sym, ap, subst, ◌∙◌, ◌⊎◌, inl, inr}
use Rattle.std.specs.Prelude.{IfOk, Result, Ok, Err}
use Rattle.age_format.specs.Stanza.{Stanza, IsStanza, IsFront, spelling}
use Rattle.age_format.specs.Front.{BeginsNone, IsMalformed}
use Rattle.age_format.specs.Strings.{BeginsWithHeader}
use Rattle.age_legacy.specs.Legacy.{Ends, HasBody, HasNoBody, HasNoHeader, Reading, Stands, Cut, Malformed, ReadsBehind, ReadsHeader, ReadsLegacy, chunks_of, behind_chunks}
use Rattle.age_legacy.proofs.Bodies.{same_body}

-- ---- one stanza by its parts

made : List ℕ → List (List ℕ) → List ℕ → Stanza
made tag args body = record { tag = tag; args = args; body = body }

same_parts : (s t : Stanza) → s.tag ≡ t.tag → s.args ≡ t.args → s.body ≡ t.body → s ≡ t
unfolding made
same_parts s t tag args body =
    ap (λ (x : List ℕ). made x s.args s.body) tag ∙ ap (λ (x : List (List ℕ)). made t.tag x s.body) args ∙ ap (λ (x : List ℕ). made t.tag t.args x) body

same_rest : (text rest other : List ℕ) → text ≡ 10 ∷ rest → text ≡ 10 ∷ other → rest ≡ other
same_rest text rest other p q = cc

module _ (one_stanza : (s t : Stanza) (more rest : List ℕ) → IsStanza s → IsStanza t → spelling s ++ more ≡ spelling t ++ rest → s ≡ t)
    (one_rest : (s t : Stanza) (more rest : List ℕ) → IsStanza s → IsStanza t → spelling s ++ more ≡ spelling t ++ rest → more ≡ rest)
    (fronts_begin_none : (text : List ℕ) → IsFront text → BeginsNone text)
    (one_header : (text : List ℕ) (one other : Stanza) (behind rest : List ℕ) → BeginsWithHeader text one behind → BeginsWithHeader text other rest → (one ≡ other) × (behind ≡ rest)) where
  -- ---- behind a header line

  same_stanza : (header : Stanza) (text : List ℕ) (s t : Stanza) (rest other : List ℕ) → HasBody header text s rest → HasBody header text t other → Stands s rest ≡ Stands t other
  same_stanza header text s t rest other a b =
      let stanza = same_parts s t (a.tag ∙ sym b.tag) (a.args ∙ sym b.args) (same_body one_stanza (chunks_of text) s.body t.body a.lines b.lines) in
      let rests = same_rest (behind_chunks text) rest other a.fed b.fed in
      cc

  same_header : (header : Stanza) (text : List ℕ) (s t : Stanza) (rest other : List ℕ) → HasNoBody header text s rest → HasNoBody header text t other → Stands s rest ≡ Stands t other
  same_header header text s t rest other a b = cc (a.stanza_is, a.rest_is, b.stanza_is, b.rest_is)

  one_behind : (header : Stanza) (text : List ℕ) (one other : Reading) → ReadsBehind header text one → ReadsBehind header text other → one ≡ other
  one_behind header text (Stands s rest) (Stands t other) a b =
      elim a [
        | inl body ↦ elim b [ inl also ↦ same_stanza header text s t rest other body also | inr none ↦ absurd (none.no_lines s.body body.lines) ]
        | inr none ↦ elim b [ inl body ↦ absurd (none.no_lines t.body body.lines) | inr also ↦ same_header header text s t rest other none also ]
      ]
  one_behind header text (Stands s rest) Cut a b = absurd (elim a [ inl body ↦ body.goes_on b | inr none ↦ none.goes_on b ])
  one_behind header text (Stands s rest) Malformed a b = absurd (elim a [ inl body ↦ b.unfed rest body.fed | inr none ↦ none.no_lines b.body b.lines ])
  one_behind header text Cut (Stands t other) a b = absurd (elim b [ inl body ↦ body.goes_on a | inr none ↦ none.goes_on a ])
  one_behind header text Cut Cut a b = refl
  one_behind header text Cut Malformed a b = absurd (b.goes_on a)
  one_behind header text Malformed (Stands t other) a b = absurd (elim b [ inl body ↦ a.unfed other body.fed | inr none ↦ none.no_lines a.body a.lines ])
  one_behind header text Malformed Cut a b = absurd (a.goes_on b)
  one_behind header text Malformed Malformed a b = refl

  one_by_header : (text : List ℕ) (one other : Reading) → ReadsHeader text one → ReadsHeader text other → one ≡ other
  one_by_header text one other a b =
      let same = one_header text a.header b.header a.behind b.behind a.begins b.begins in
      let moved = subst (λ (t : List ℕ). ReadsBehind b.header t other) (sym same.1) b.reads in
      one_behind a.header a.behind one other a.reads (subst (λ (h : Stanza). ReadsBehind h a.behind other) (sym same.0) moved)

  -- ---- a text

  same_strict : (text : List ℕ) (s t : Stanza) (rest other : List ℕ) → IsStanza s → IsStanza t → text ≡ spelling s ++ rest → text ≡ spelling t ++ other → Stands s rest ≡ Stands t other
  same_strict text s t rest other h k p q =
      let stanza = one_stanza s t rest other h k (sym p ∙ q) in
      let rests = one_rest s t rest other h k (sym p ∙ q) in
      cc

  -- a strict stanza stands in no malformed text, and in no front
  not_malformed : (text : List ℕ) (s : Stanza) (rest : List ℕ) → IsStanza s × (text ≡ spelling s ++ rest) → IsMalformed text → ⊥
  not_malformed text s rest h malformed = malformed.begins_none s rest h.0 h.1

  stands_or_front : (text : List ℕ) (s : Stanza) (rest : List ℕ) → ReadsLegacy text (Stands s rest) → IsFront text → ⊥
  stands_or_front text s rest a front = elim a [ inl strict ↦ fronts_begin_none text front s rest strict.0 strict.1 | inr older ↦ older.0.no_front front ]

  stands_or_cut : (text : List ℕ) (s : Stanza) (rest : List ℕ) → ReadsLegacy text (Stands s rest) → ReadsLegacy text Cut → Stands s rest ≡ Cut
  stands_or_cut text s rest a b =
      elim b [
        | inl front ↦ absurd (stands_or_front text s rest a front)
        | inr cut ↦ elim a [ inl strict ↦ absurd (not_malformed text s rest strict cut.0) | inr older ↦ one_by_header text (Stands s rest) Cut older.1 cut.1 ]
      ]

  -- a malformed text with a header line that comes to this, or without one
  with_or_without : (text : List ℕ) (one : Reading) → ReadsHeader text one → HasNoHeader text ⊎ ReadsHeader text Malformed → one ≡ Malformed
  with_or_without text one a b = elim b [ inl without ↦ absurd (without a.header a.behind a.begins) | inr malformed ↦ one_by_header text one Malformed a malformed ]

  stands_or_malformed : (text : List ℕ) (s : Stanza) (rest : List ℕ) → ReadsLegacy text (Stands s rest) → ReadsLegacy text Malformed → Stands s rest ≡ Malformed
  stands_or_malformed text s rest a b = elim a [ inl strict ↦ absurd (not_malformed text s rest strict b.0) | inr older ↦ with_or_without text (Stands s rest) older.1 b.1 ]

  cut_or_malformed : (text : List ℕ) → ReadsLegacy text Cut → ReadsLegacy text Malformed → Cut ≡ Malformed
  cut_or_malformed text a b = elim a [ inl front ↦ absurd (b.0.no_front front) | inr cut ↦ with_or_without text Cut cut.1 b.1 ]

  pub one_legacy : (text : List ℕ) (one other : Reading) → ReadsLegacy text one → ReadsLegacy text other → one ≡ other
  one_legacy text (Stands s rest) (Stands t other) a b =
      elim a [
        | inl strict ↦ elim b [ inl also ↦ same_strict text s t rest other strict.0 also.0 strict.1 also.1 | inr older ↦ absurd (not_malformed text s rest strict older.0) ]
        | inr older ↦ elim b [ inl strict ↦ absurd (not_malformed text t other strict older.0) | inr also ↦ one_by_header text (Stands s rest) (Stands t other) older.1 also.1 ]
      ]
  one_legacy text (Stands s rest) Cut a b = stands_or_cut text s rest a b
  one_legacy text (Stands s rest) Malformed a b = stands_or_malformed text s rest a b
  one_legacy text Cut (Stands t other) a b = sym (stands_or_cut text t other b a)
  one_legacy text Cut Cut a b = refl
  one_legacy text Cut Malformed a b = cut_or_malformed text a b
  one_legacy text Malformed (Stands t other) a b = sym (stands_or_malformed text t other b a)
  one_legacy text Malformed Cut a b = sym (cut_or_malformed text b a)
  one_legacy text Malformed Malformed a b = refl

-- ---- each text has one

-- behind a header line, where no reading of the text is one
none_behind : (header : Stanza) (behind : List ℕ) → ((reading : Reading) → ReadsBehind header behind reading → ⊥) → ⊥
none_behind header behind none =
    let goes_on : Ends behind → ⊥ = λ ends. none Cut ends in
    none (Stands header behind) (inr (record {
      goes_on = goes_on;
      no_lines = λ body lines. none Malformed (record {
        goes_on = goes_on;
        body = body;
        lines = lines;
        unfed = λ rest fed. none (Stands (record header { body = body }) rest) (inl (record { goes_on = goes_on; lines = lines; fed = fed; tag = refl; args = refl }));
      });
      stanza_is = refl;
      rest_is = refl;
    }))

pub older : (text : List ℕ) (reading : Reading) → IsMalformed text → ReadsHeader text reading → ReadsLegacy text reading
older text (Stands s rest) malformed reads = inr (malformed, reads)
older text Cut malformed reads = inr (malformed, reads)
older text Malformed malformed reads = (malformed, inr reads)

-- a malformed text with a header line, by what a call answers
pub read_older : {A E : Type 0} (s : A → Stanza) (t : A → List ℕ) (r : Result A E) (text : List ℕ) (header : Stanza) (behind : List ℕ) → IsMalformed text → BeginsWithHeader text header behind
    → IfOk r (λ found. ReadsBehind header behind (Stands (s found) (t found))) → IfOk r (λ found. ReadsLegacy text (Stands (s found) (t found)))
read_older s t (Err e) text header behind malformed begins h = tt
read_older s t (Ok found) text header behind malformed begins h = inr (malformed, record { header = header; behind = behind; begins = begins; reads = h })

none_without : (text : List ℕ) → IsMalformed text → ((reading : Reading) → ReadsLegacy text reading → ⊥) → HasNoHeader text
none_without text malformed none header behind begins =
    none_behind header behind (λ reading reads. none reading (older text reading malformed (record { header = header; behind = behind; begins = begins; reads = reads })))

pub some_legacy : (text : List ℕ) → ((reading : Reading) → ReadsLegacy text reading → ⊥) → ⊥
some_legacy text none =
    let malformed : IsMalformed text = record { no_front = λ front. none Cut (inl front); begins_none = λ s more is e. none (Stands s more) (inl (is, e)) } in
    none Malformed (malformed, inl (none_without text malformed none))
