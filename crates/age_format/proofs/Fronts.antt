-- A scan that came to the end of its text shows one of the three cases, and each case a front.
use Rattle.std.proofs.Common.{◌≡◌, ◌≢◌, ℕ, ◌+◌, ◌<◌, ◌≤◌, Bool, true, false, cond, eqb, leb, List, [], ◌∷◌, ◌++◌, length, refl, sym, ap, subst, ◌∙◌, append_assoc, ◌⊎◌, inl, inr, arith}
use Rattle.std.specs.Prelude.{codes}
use Rattle.std.specs.List.{flat_map, AllByRecursion}
use Rattle.std.proofs.lemmas.Bool.{eqb-true, leb-true}
use Rattle.std.proofs.lemmas.Bool.Decides.{nat_tests}
use Rattle.std.proofs.lemmas.List.{append-nil, length_push}
use Rattle.std.proofs.lemmas.List.Concat.{flat_map-append}
use Rattle.age_format.specs.declared.scan.Place.{Place}
use Rattle.age_format.specs.declared.scan.Place.TheVariants.{Start, Dash, Arrow, Gap, Word, Line}
use Rattle.age_format.specs.declared.scan.Step.{Step}
use Rattle.age_format.specs.declared.scan.Step.TheVariants.{To, End, Bad}
use Rattle.age_format.specs.Stanza.{IsFront, IsVisible, IsArbitraryString}
use Rattle.age_format.specs.Front.{IsCharacter, IsFrontByCases}
use Rattle.age_format.specs.private.Parse.{is_visible}
use Rattle.age_format.specs.private.Scan.{is_character, ScanEnd, At, Whole, Broken, scan}
use Rattle.age_format.proofs.Words.{All-push, passes_visible, before_space, behind_space, joined, joined-push}
use Rattle.age_format.proofs.Scans.{passes_character, whole_no_front, broken_no_front}

-- ---- which step a scan took

-- a scan that came to the end took this step
goes_on : (b : Bool) (next other : Step) (bs : List ℕ) (q : Place) → scan (cond b next other) bs ≡ At q
    → ((b ≡ true) × (scan next bs ≡ At q)) ⊎ ((b ≡ false) × (scan other bs ≡ At q))
goes_on true next other bs q e = inl (refl, e)
goes_on false next other bs q e = inr (refl, e)

not_bad : (bs : List ℕ) (q : Place) → scan Bad bs ≡ At q → ⊥
unfolding scan
not_bad bs q e = cc

not_ended : (bs : List ℕ) (q : Place) → scan End bs ≡ At q → ⊥
unfolding scan
not_ended bs q e = cc

only : (b : Bool) (next : Place) (bs : List ℕ) (q : Place) → scan (cond b (To next) Bad) bs ≡ At q → (b ≡ true) × (scan (To next) bs ≡ At q)
only b next bs q e = elim (goes_on b (To next) Bad bs q e) [
  | inl passed ↦ passed
  | inr failed ↦ absurd (not_bad bs q failed.1)
]

-- ---- the lines of a body

-- a line with its line feed
abbrev pub before_feed : List ℕ → List ℕ
before_feed line = line ++ 10 ∷ []

abbrev pub IsFullLine : List ℕ → Type 0
IsFullLine line = (length line ≡ 64) × AllByRecursion IsCharacter line

-- full lines, and 0 to 64 characters
pub record LinesPart (text : List ℕ) : Type 0 where
  pub lines : List (List ℕ)
  pub last : List ℕ
  pub text_is : text ≡ flat_map before_feed lines ++ last
  pub lines_are : AllByRecursion IsFullLine lines
  pub last_is : (length last ≤ 64) × AllByRecursion IsCharacter last

at_feed : (before line bs : List ℕ) → before ++ (line ++ 10 ∷ bs) ≡ (before ++ ((line ++ 10 ∷ []) ++ [])) ++ bs
at_feed before line bs = simp append_assoc

lines_behind : (lines : List (List ℕ)) (line bs : List ℕ) → flat_map before_feed lines ++ (line ++ 10 ∷ bs) ≡ flat_map before_feed (lines ++ line ∷ []) ++ bs
lines_behind lines line bs = at_feed (flat_map before_feed lines) line bs ∙ ap (λ (t : List ℕ). t ++ bs) (sym (flat_map-append before_feed lines (line ∷ [])))

lines_part : (text other : List ℕ) → text ≡ other → LinesPart other → LinesPart text
lines_part text other e part = record { lines = part.lines; last = part.last; text_is = e ∙ part.text_is; lines_are = part.lines_are; last_is = part.last_is }

line_front : (text line : List ℕ) (lines : List (List ℕ)) (n : ℕ) (q : Place) → n ≡ length line → n ≤ 64 → AllByRecursion IsCharacter line → AllByRecursion IsFullLine lines
    → scan (To (Line n)) text ≡ At q → LinesPart (flat_map before_feed lines ++ (line ++ text))
unfolding scan
line_front [] line lines n q len within all full e = record {
  lines = lines;
  last = line;
  text_is = ap (λ (t : List ℕ). flat_map before_feed lines ++ t) (append-nil line);
  lines_are = full;
  last_is = (omega arith, all);
}
line_front (b ∷ bs) line lines n q len within all full e =
    elim (goes_on (eqb b 10) _ _ bs q e) [
      | inl feed ↦ elim (goes_on (leb 64 n) _ _ bs q feed.1) [
        | inl long ↦
            let is : length line ≡ 64 = let le = leb-true 64 n long.0 in omega arith in
            let more = line_front bs [] (lines ++ line ∷ []) 0 q refl (omega arith) tt (All-push IsFullLine lines line full (is, all)) long.1 in
            lines_part _ _ (rw (eqb-true b 10 feed.0) (lines_behind lines line bs)) more
        | inr short ↦ absurd (not_ended bs q short.1)
      ]
      | inr other ↦ elim (goes_on (leb 64 n) _ _ bs q other.1) [
        | inl long ↦ absurd (not_bad bs q long.1)
        | inr short ↦
            let char = only (is_character b) (Line (n + 1)) bs q short.1 in
            let lt : n < 64 = grind (arith, nat_tests, short.0) in
            let more = line_front bs (line ++ b ∷ []) lines (n + 1) q (omega (arith, length_push line b)) (omega arith) (All-push IsCharacter line b all (passes_character b char.0)) full char.1 in
            lines_part _ _ (ap (λ (t : List ℕ). flat_map before_feed lines ++ t) (sym (append_assoc line (b ∷ []) bs))) more
      ]
    ]

-- ---- the header line

-- behind `-> `
abbrev pub marked : List ℕ → List ℕ
marked text = 45 ∷ 62 ∷ 32 ∷ text

at_space : (before word bs : List ℕ) → before ++ (word ++ 32 ∷ bs) ≡ (before ++ ((word ++ 32 ∷ []) ++ [])) ++ bs
at_space before word bs = simp append_assoc

words_behind : (words : List (List ℕ)) (word bs : List ℕ) → flat_map before_space words ++ (word ++ 32 ∷ bs) ≡ flat_map before_space (words ++ word ∷ []) ++ bs
words_behind words word bs = at_space (flat_map before_space words) word bs ∙ ap (λ (t : List ℕ). t ++ bs) (sym (flat_map-append before_space words (word ∷ [])))

by_cases : (text other : List ℕ) → text ≡ other → IsFrontByCases other → IsFrontByCases text
by_cases text other e h = subst IsFrontByCases (sym e) h

header_part : (words : List (List ℕ)) (last : List ℕ) → AllByRecursion IsArbitraryString words → AllByRecursion IsVisible last → IsFrontByCases (marked (flat_map before_space words ++ last))
header_part words last all v = inr (inl (record { words = words; last = last; text_is = refl; words_are = all; last_is = v }))

regroup : (t a l r : List ℕ) → (t ++ a) ++ 10 ∷ (l ++ r) ≡ t ++ a ++ 10 ∷ l ++ r
regroup t a l r = simp append_assoc

-- words and a line feed: the tag, and the arguments
header_ends : (words : List (List ℕ)) (lines : List ℕ) → (0 < length words) → AllByRecursion IsArbitraryString words → LinesPart lines → IsFrontByCases (marked (joined words ++ 10 ∷ lines))
header_ends [] lines some all part = absurd (omega (arith, some))
header_ends (tag ∷ args) lines some all part = inr (inr (record {
  tag = tag;
  args = args;
  lines = part.lines;
  last = part.last;
  text_is = ap (λ (t : List ℕ). marked (joined (tag ∷ args) ++ 10 ∷ t)) part.text_is ∙ ap marked (regroup tag (flat_map behind_space args) (flat_map before_feed part.lines) part.last);
  tag_is = all.0;
  args_are = all.1;
  lines_are = part.lines_are;
  last_is = part.last_is;
}))

header_feed : (words : List (List ℕ)) (word bs : List ℕ) → flat_map before_space words ++ (word ++ 10 ∷ bs) ≡ joined (words ++ word ∷ []) ++ 10 ∷ bs
header_feed words word bs = sym (append_assoc (flat_map before_space words) word (10 ∷ bs)) ∙ ap (λ (t : List ℕ). t ++ 10 ∷ bs) (sym (joined-push words word))

not_empty : (word : List ℕ) (b : ℕ) → word ++ b ∷ [] ≢ []
not_empty [] b e = cc
not_empty (x ∷ xs) b e = cc

-- behind a byte of a word
word_front : (text word : List ℕ) (words : List (List ℕ)) (q : Place) → IsArbitraryString word → AllByRecursion IsArbitraryString words
    → scan (To Word) text ≡ At q → IsFrontByCases (marked (flat_map before_space words ++ (word ++ text)))
unfolding scan
word_front [] word words q h all e = by_cases _ _ (ap (λ (t : List ℕ). marked (flat_map before_space words ++ t)) (append-nil word)) (header_part words word all h.1)
word_front (b ∷ []) word words q h all e =
    elim (goes_on (is_visible b) _ _ [] q e) [
      | inl visible ↦ header_part words (word ++ b ∷ []) all (All-push IsVisible word b h.1 (passes_visible b visible.0))
      | inr hidden ↦ elim (goes_on (eqb b 32) _ _ [] q hidden.1) [
        | inl space ↦
            by_cases _ _ (ap marked (rw (eqb-true b 32 space.0) (words_behind words word []))) (header_part (words ++ word ∷ []) [] (All-push IsArbitraryString words word all h) tt)
        | inr other ↦
            let feed = only (eqb b 10) (Line 0) [] q other.1 in
            let all' = All-push IsArbitraryString words word all h in
            by_cases _ _ (ap marked (rw (eqb-true b 10 feed.0) (header_feed words word [])))
            (header_ends (words ++ word ∷ []) [] (omega (arith, length_push words word)) all' (line_front [] [] [] 0 q refl (omega arith) tt tt feed.1))
      ]
    ]
word_front (b ∷ c ∷ bs) word words q h all e =
    elim (goes_on (is_visible b) _ _ (c ∷ bs) q e) [
      | inl visible ↦
          by_cases _ _ (ap (λ (t : List ℕ). marked (flat_map before_space words ++ t)) (sym (append_assoc word (b ∷ []) (c ∷ bs))))
          (word_front (c ∷ bs) (word ++ b ∷ []) words q (not_empty word b, All-push IsVisible word b h.1 (passes_visible b visible.0)) all visible.1)
      | inr hidden ↦ elim (goes_on (eqb b 32) _ _ (c ∷ bs) q hidden.1) [
        | inl space ↦
            let first = only (is_visible c) Word bs q space.1 in
            let more = word_front bs (c ∷ []) (words ++ word ∷ []) q ((λ nil. absurd cc), (passes_visible c first.0, tt)) (All-push IsArbitraryString words word all h) first.1 in
            by_cases _ _ (ap marked (rw (eqb-true b 32 space.0) (words_behind words word (c ∷ bs)))) more
        | inr other ↦
            let feed = only (eqb b 10) (Line 0) (c ∷ bs) q other.1 in
            let all' = All-push IsArbitraryString words word all h in
            by_cases _ _ (ap marked (rw (eqb-true b 10 feed.0) (header_feed words word (c ∷ bs))))
            (header_ends (words ++ word ∷ []) (c ∷ bs) (omega (arith, length_push words word)) all' (line_front (c ∷ bs) [] [] 0 q refl (omega arith) tt tt feed.1))
      ]
    ]

gap_front : (text : List ℕ) (q : Place) → scan (To Gap) text ≡ At q → IsFrontByCases (marked text)
unfolding scan
gap_front [] q e = inl ([], refl)
gap_front (b ∷ bs) q e =
    let first = only (is_visible b) Word bs q e in
    word_front bs (b ∷ []) [] q ((λ nil. absurd cc), (passes_visible b first.0, tt)) tt first.1

-- the three cases
pub scan_front : (text : List ℕ) (q : Place) → scan (To Start) text ≡ At q → IsFrontByCases text
unfolding scan
scan_front [] q e = inl (codes "-> ", refl)
scan_front (a ∷ []) q e =
    let first = only (eqb a 45) Dash [] q e in
    rw (eqb-true a 45 first.0) (inl (62 ∷ 32 ∷ [], refl))
scan_front (a ∷ b ∷ []) q e =
    let first = only (eqb a 45) Dash (b ∷ []) q e in
    let second = only (eqb b 62) Arrow [] q first.1 in
    rw (eqb-true a 45 first.0, eqb-true b 62 second.0) (inl (32 ∷ [], refl))
scan_front (a ∷ b ∷ c ∷ text) q e =
    let first = only (eqb a 45) Dash (b ∷ c ∷ text) q e in
    let second = only (eqb b 62) Arrow (c ∷ text) q first.1 in
    let third = only (eqb c 32) Gap text q second.1 in
    rw (eqb-true a 45 first.0, eqb-true b 62 second.0, eqb-true c 32 third.0) (gap_front text q third.1)

-- ---- a front is one of the three cases

pub front_seen : (text : List ℕ) (found : ScanEnd) → scan (To Start) text ≡ found → IsFront text → (q : Place) × (scan (To Start) text ≡ At q)
front_seen text (At q) e front = (q, e)
front_seen text (Whole rest) e front = absurd (whole_no_front text rest e front)
front_seen text Broken e front = absurd (broken_no_front text e front)

pub front_by_cases : (text : List ℕ) → IsFront text → IsFrontByCases text
front_by_cases text front =
    let seen = front_seen text (scan (To Start) text) refl front in
    scan_front text seen.0 seen.1
