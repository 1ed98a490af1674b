-- The words of a header line: what is read spells them, and what spells them is read.
use Rattle.std.proofs.Common.{◌≡◌, ◌≢◌, ℕ, zero, suc, ◌+◌, ◌<◌, ◌≤◌, true, false, cond, eqb, leb, List, [], ◌∷◌, ◌++◌, length, get_or, take, drop, Some, None, refl, sym, ap, ◌∙◌, append_assoc, inl, inr, arith, IsUtf8, IsAscii}
use Rattle.std.specs.List.{flat_map, AllByRecursion}
use Rattle.std.proofs.lemmas.Bool.{leb-true, le-leb, and_parts, and_from, eqb-true, ne_eqb, cases_Bool}
use Rattle.std.proofs.lemmas.List.{append-nil, take_more, drop_more}
use Rattle.std.proofs.lemmas.List.Concat.{flat_map-append}
use Rattle.std.proofs.lemmas.Str.{IsUtf8-from_ascii}
use Rattle.age_format.specs.Stanza.{IsVisible, IsArbitraryString}
use Rattle.age_format.specs.Strings.{BeginsHidden, BeginsWithString}
use Rattle.age_format.specs.private.Parse.{is_visible, words_from}
use Rattle.std.proofs.lemmas.Option.{none-some}
use Rattle.age_format.proofs.Cases.{chosen, length_not_zero, not_nil, some_parts}

pub visible_passes : (b : ℕ) → IsVisible b → is_visible b ≡ true
visible_passes b h = and_from _ _ (le-leb 33 b h.0) (le-leb b 126 h.1)

pub passes_visible : (b : ℕ) → is_visible b ≡ true → IsVisible b
passes_visible b e = let p = and_parts (leb 33 b) (leb b 126) e in (leb-true 33 b p.0, leb-true b 126 p.1)

-- an argument with the space before it
abbrev pub behind_space : List ℕ → List ℕ
behind_space w = 32 ∷ w

-- a word with the space behind it
abbrev pub before_space : List ℕ → List ℕ
before_space w = w ++ 32 ∷ []

-- words with single spaces between them
abbrev pub joined : List (List ℕ) → List ℕ
joined [] = []
joined (w ∷ ws) = w ++ flat_map behind_space ws

shifted : (words : List (List ℕ)) (word : List ℕ) → flat_map behind_space (words ++ word ∷ []) ≡ 32 ∷ (flat_map before_space words ++ word)
shifted [] word = ap (λ (t : List ℕ). 32 ∷ t) (append-nil word)
shifted (v ∷ vs) word = ap (λ (t : List ℕ). (32 ∷ v) ++ t) (shifted vs word) ∙ simp append_assoc

pub joined-push : (words : List (List ℕ)) (word : List ℕ) → joined (words ++ word ∷ []) ≡ flat_map before_space words ++ word
joined-push [] word = append-nil word
joined-push (w ∷ ws) word = ap (λ (t : List ℕ). w ++ t) (shifted ws word) ∙ simp append_assoc

pub All-push : {A : Type 0} (P : A → Type 0) (xs : List A) (x : A) → AllByRecursion P xs → P x → AllByRecursion P (xs ++ x ∷ [])
All-push P [] x h p = (p, tt)
All-push P (y ∷ ys) x h p = (h.0, All-push P ys x h.1 p)

-- what words and the line's end spell, and that they are words
pub record SpellsWords (text : List ℕ) (found : List (List ℕ)) (rest : List ℕ) : Type 0 where
  pub text_is : text ≡ joined found ++ 10 ∷ rest
  pub each : AllByRecursion IsArbitraryString found

at_space : (before word bs : List ℕ) → before ++ (word ++ 32 ∷ bs) ≡ (before ++ ((word ++ 32 ∷ []) ++ [])) ++ bs
at_space before word bs = simp append_assoc

spells_space : (words : List (List ℕ)) (word : List ℕ) (b : ℕ) (bs : List ℕ) (found : List (List ℕ)) (rest : List ℕ) → b ≡ 32
    → SpellsWords (flat_map before_space (words ++ word ∷ []) ++ bs) found rest → SpellsWords (flat_map before_space words ++ (word ++ b ∷ bs)) found rest
spells_space words word b bs found rest is more = record {
  text_is = rw is (at_space (flat_map before_space words) word bs ∙ (ap (λ (t : List ℕ). t ++ bs) (sym (flat_map-append before_space words (word ∷ []))) ∙ more.text_is));
  each = more.each;
}

spells_feed : (words : List (List ℕ)) (word : List ℕ) (b : ℕ) (bs : List ℕ) (found : List (List ℕ)) (rest : List ℕ) → b ≡ 10
    → AllByRecursion IsArbitraryString (words ++ word ∷ []) → (words ++ word ∷ [] ≡ found) × (bs ≡ rest) → SpellsWords (flat_map before_space words ++ (word ++ b ∷ bs)) found rest
spells_feed words word b bs found rest is all same = record {
  text_is = rw (is, ← same.0, ← same.1, joined-push words word) (sym (append_assoc (flat_map before_space words) word (10 ∷ bs)));
  each = rw (← same.0) all;
}

-- behind a whole word
after_word : (b : ℕ) (bs word : List ℕ) (words found : List (List ℕ)) (rest : List ℕ)
    → cond (eqb b 32) (words_from [] (words ++ word ∷ []) bs) (cond (eqb b 10) (Some (words ++ word ∷ [], bs)) None) ≡ Some (found, rest)
    → ((found' : List (List ℕ)) (rest' : List ℕ) → words_from [] (words ++ word ∷ []) bs ≡ Some (found', rest') → SpellsWords (flat_map before_space (words ++ word ∷ []) ++ bs) found' rest')
    → AllByRecursion IsArbitraryString (words ++ word ∷ []) → SpellsWords (flat_map before_space words ++ (word ++ b ∷ bs)) found rest
after_word b bs word words found rest e again all =
    elim (chosen (eqb b 32) _ _ _ e) [
      | inl space ↦ spells_space words word b bs found rest (eqb-true b 32 space.0) (again found rest space.1)
      | inr no_space ↦ elim (chosen (eqb b 10) _ _ _ no_space.1) [
        | inl feed ↦ spells_feed words word b bs found rest (eqb-true b 10 feed.0) all (some_parts _ _ _ _ feed.1)
        | inr other ↦ absurd (none-some _ other.1)
      ]
    ]

pub words_sound : (text word : List ℕ) (words found : List (List ℕ)) (rest : List ℕ) → words_from word words text ≡ Some (found, rest)
    → AllByRecursion IsVisible word → AllByRecursion IsArbitraryString words → SpellsWords (flat_map before_space words ++ (word ++ text)) found rest
unfolding words_from
words_sound [] word words found rest e v all = absurd (none-some _ e)
words_sound (b ∷ bs) word words found rest e v all =
    elim (chosen (is_visible b) _ _ _ e) [
      | inl at ↦
          let more = words_sound bs (word ++ b ∷ []) words found rest at.1 (All-push IsVisible word b v (passes_visible b at.0)) all in
          record { text_is = ap (λ (t : List ℕ). flat_map before_space words ++ t) (sym (append_assoc word (b ∷ []) bs)) ∙ more.text_is; each = more.each }
      | inr at ↦ elim (chosen (eqb (length word) 0) _ _ _ at.1) [
        | inl empty ↦ absurd (none-some _ empty.1)
        | inr full ↦
            let all' = All-push IsArbitraryString words word all (not_nil word full.0, v) in
            after_word b bs word words found rest full.1 (λ found' rest' e'. words_sound bs [] (words ++ word ∷ []) found' rest' e' tt all') all'
      ]
    ]

-- a run of visible bytes is one word
words_run : (run word : List ℕ) (words : List (List ℕ)) (text : List ℕ) → AllByRecursion IsVisible run → words_from word words (run ++ text) ≡ words_from (word ++ run) words text
unfolding words_from
words_run [] word words text v = ap (λ (w : List ℕ). words_from w words text) (sym (append-nil word))
words_run (b ∷ bs) word words text v =
    rw (visible_passes b v.0) (words_run bs (word ++ b ∷ []) words text v.1 ∙ ap (λ (w : List ℕ). words_from w words text) (append_assoc word (b ∷ []) bs))

ends_word : (word : List ℕ) (words : List (List ℕ)) (rest : List ℕ) → word ≢ [] → words_from word words (10 ∷ rest) ≡ Some (words ++ word ∷ [], rest)
unfolding words_from
ends_word word words rest full = rw (length_not_zero word full) refl

closes_word : (word : List ℕ) (words : List (List ℕ)) (rest : List ℕ) → word ≢ [] → words_from word words (32 ∷ rest) ≡ words_from [] (words ++ word ∷ []) rest
unfolding words_from
closes_word word words rest full = rw (length_not_zero word full) refl

pub words_complete : (args words : List (List ℕ)) (tag rest : List ℕ) → IsArbitraryString tag → AllByRecursion IsArbitraryString args
    → words_from [] words (tag ++ (flat_map behind_space args ++ 10 ∷ rest)) ≡ Some (words ++ tag ∷ args, rest)
words_complete [] words tag rest h all = words_run tag [] words (10 ∷ rest) h.1 ∙ ends_word tag words rest h.0
words_complete (arg ∷ args) words tag rest h all =
    let regrouped : flat_map behind_space (arg ∷ args) ++ 10 ∷ rest ≡ 32 ∷ (arg ++ (flat_map behind_space args ++ 10 ∷ rest)) = ap (λ (t : List ℕ). 32 ∷ t) (append_assoc arg (flat_map behind_space args) (10 ∷ rest)) in
    let more = words_complete args (words ++ tag ∷ []) arg rest all.0 all.1 in
    rw regrouped (words_run tag [] words _ h.1 ∙ (closes_word tag words _ h.0 ∙ (more ∙ ap (λ (ws : List (List ℕ)). Some (ws, rest)) (append_assoc words (tag ∷ []) (arg ∷ args)))))

-- ---- the longest run at the front of a text

pub hidden_fails : (b : ℕ) → (IsVisible b → ⊥) → is_visible b ≡ false
hidden_fails b h =
    elim (cases_Bool (is_visible b)) [
      | inl shown ↦ absurd (h (passes_visible b shown))
      | inr hidden ↦ hidden
    ]

-- one byte more of a run, and the byte that ends it
pub visible_more : (text : List ℕ) (i : ℕ) → i < length text → AllByRecursion IsVisible (take i text) → is_visible (get_or text i 0) ≡ true → AllByRecursion IsVisible (take (i + 1) text)
visible_more text i within run visible = rw (take_more text i 0 within) (All-push IsVisible (take i text) (get_or text i 0) run (passes_visible _ visible))

pub hidden_here : (text : List ℕ) (i : ℕ) → i < length text → is_visible (get_or text i 0) ≡ false → BeginsHidden (drop i text)
hidden_here text i within hidden = rw (drop_more text i 0 within) (λ v. let both : true ≡ false = sym (visible_passes _ v) ∙ hidden in absurd cc)

at_space_byte : (word : List ℕ) (words : List (List ℕ)) (rest : List ℕ) → word ≢ [] → get_or rest 0 0 ≡ 32 → words_from word words rest ≡ words_from [] (words ++ word ∷ []) (drop 1 rest)
at_space_byte word words [] full is = absurd (omega arith)
at_space_byte word words (b ∷ bs) full is = let same : b ≡ 32 = is in rw same (closes_word word words bs full)

at_feed_byte : (word : List ℕ) (words : List (List ℕ)) (rest : List ℕ) → word ≢ [] → get_or rest 0 0 ≡ 10 → words_from word words rest ≡ Some (words ++ word ∷ [], drop 1 rest)
at_feed_byte word words [] full is = absurd (omega arith)
at_feed_byte word words (b ∷ bs) full is = let same : b ≡ 10 = is in rw same (ends_word word words bs full)

at_other_byte : (word : List ℕ) (words : List (List ℕ)) (rest : List ℕ) → word ≢ [] → BeginsHidden rest → get_or rest 0 0 ≢ 32 → get_or rest 0 0 ≢ 10 → words_from word words rest ≡ None
unfolding words_from
at_other_byte word words [] full hidden no_space no_feed = absurd hidden
at_other_byte word words (b ∷ bs) full hidden no_space no_feed = rw (hidden_fails b hidden, length_not_zero word full, ne_eqb b 32 no_space, ne_eqb b 10 no_feed) refl

nothing_left : (word : List ℕ) (words : List (List ℕ)) → words_from word words [] ≡ None
unfolding words_from
nothing_left word words = refl

-- what a string at the front comes to, by the byte behind it
module _ (text string rest : List ℕ) (words : List (List ℕ)) (begins : BeginsWithString text string rest) where
  string_behind : words_from [] words text ≡ words_from string words rest
  string_behind = ap (words_from [] words) begins.whole ∙ words_run string [] words rest begins.is_string.1

  pub string_space : get_or rest 0 0 ≡ 32 → words_from [] words text ≡ words_from [] (words ++ string ∷ []) (drop 1 rest)
  string_space is = string_behind ∙ at_space_byte string words rest begins.is_string.0 is

  pub string_feed : get_or rest 0 0 ≡ 10 → words_from [] words text ≡ Some (words ++ string ∷ [], drop 1 rest)
  string_feed is = string_behind ∙ at_feed_byte string words rest begins.is_string.0 is

  pub string_other : get_or rest 0 0 ≢ 32 → get_or rest 0 0 ≢ 10 → words_from [] words text ≡ None
  string_other no_space no_feed = string_behind ∙ at_other_byte string words rest begins.is_string.0 begins.longest no_space no_feed

-- where no string stands at the front, or nothing behind it
pub no_end : (text : List ℕ) (words : List (List ℕ)) → AllByRecursion IsVisible text → words_from [] words text ≡ None
no_end text words run = ap (words_from [] words) (sym (append-nil text)) ∙ (words_run text [] words [] run ∙ nothing_left text words)

pub no_string : (text : List ℕ) (words : List (List ℕ)) → BeginsHidden text → words_from [] words text ≡ None
unfolding words_from
no_string [] words h = absurd h
no_string (b ∷ bs) words h = rw (hidden_fails b h) refl

-- visible bytes are text
visible_ascii : (bs : List ℕ) → AllByRecursion IsVisible bs → IsAscii bs
visible_ascii [] run i = omega arith
visible_ascii (b ∷ bs) run zero = let v : b ≤ 126 = run.0.1 in omega arith
visible_ascii (b ∷ bs) run (suc i) = visible_ascii bs run.1 i

pub visible_utf8 : (bs : List ℕ) → AllByRecursion IsVisible bs → IsUtf8 bs
visible_utf8 bs run = IsUtf8-from_ascii bs (visible_ascii bs run)
