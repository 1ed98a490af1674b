use Rattle.std.proofs.Common.{◌≡◌, ℕ, ◌-◌, ◌++◌, ◌∷◌, [], List, length, map, drop, None, Err, refl, sym, ap, ◌∙◌, arith}
use Rattle.std.specs.List.{AllByRecursion}
use Rattle.std.proofs.lemmas.List.{map_push, take_all, length-drop}
use Rattle.age_format.specs.Stanza.{IsVisible}
use Rattle.age_format.specs.Strings.{BeginsHidden}
use Rattle.age_format.specs.private.Parse.{words_from}
use Rattle.age_format.specs.declared.format.read.ReadRefused.{ReadRefused}
use Rattle.age_format.specs.declared.format.read.ReadRefused.TheVariants.{Incomplete, Error, NoMemory}
use Rattle.age_format.proofs.Words.{string_space, string_feed, string_other, no_end, no_string}
use Rattle.age_format.proofs.parse.words_at.Goals as goal

pub loop-behind-preserved : goal.loop-behind-preserved
loop-behind-preserved c =
    let behind = c.in-Ok.behind.now in
    let words = map (λ word. word.now) c.loop-behind.words.items in
    let step = string_space c.loop-behind.rest.now c.in-Ok.word.now behind words c.in-Ok.ensures.read c.if-byte-ne32.false in
    let more : map (λ word. word.now) c.push.new.self.items ≡ words ++ c.in-Ok.word.now ∷ [] = rw c.in_ok-push.ensures.items (map_push (λ word. word.now) c.loop-behind.words.items c.in-Ok.word) in
    rw (more, take_all (length behind - 1) (drop 1 behind) (omega (arith, length-drop 1 behind))) (sym step ∙ c.loop-behind.invariant)

pub returns-then-byte-eq10 : goal.returns-then-byte-eq10
returns-then-byte-eq10 c =
    let behind = c.in-Ok.behind.now in
    let words = map (λ word. word.now) c.loop-behind.words.items in
    let step = string_feed c.loop-behind.rest.now c.in-Ok.word.now behind words c.in-Ok.ensures.read c.if-byte-eq10.true in
    let more : map (λ word. word.now) c.push.new.self.items ≡ words ++ c.in-Ok.word.now ∷ [] = rw c.in_ok-push.ensures.items (map_push (λ word. word.now) c.loop-behind.words.items c.in-Ok.word) in
    rw (more, take_all (length behind - 1) (drop 1 behind) (omega (arith, length-drop 1 behind))) (sym step ∙ c.loop-behind.invariant)

pub returns-then-byte-ne32 : goal.returns-then-byte-ne32
returns-then-byte-ne32 c =
    let words = map (λ word. word.now) c.loop-behind.words.items in
    sym (string_other c.loop-behind.rest.now c.in-Ok.word.now c.in-Ok.behind.now words c.in-Ok.ensures.read c.if-byte-ne32.true c.if-byte-eq10.false) ∙ c.loop-behind.invariant

-- whatever was refused, there is no line
no_line : (e : ReadRefused) (text : List ℕ) (words : List (List ℕ)) → (e ≡ Incomplete → AllByRecursion IsVisible text) → (e ≡ Error → BeginsHidden text) → (e ≡ NoMemory → ⊥)
    → words_from [] words text ≡ None
no_line Incomplete text words i r m = no_end text words (i refl)
no_line Error text words i r m = no_string text words (r refl)
no_line NoMemory text words i r m = absurd (m refl)

pub returns : goal.returns
returns c =
    let words = map (λ word. word.now) c.loop-behind.words.items in
    let refused = c.in_default.ensures in
    sym (no_line c.in_default.field-0 c.loop-behind.rest.now words (λ e. refused.incomplete.0 (ap Err e)) (λ e. refused.error.0 (ap Err e)) (λ e. refused.memory (ap Err e))) ∙ c.loop-behind.invariant
