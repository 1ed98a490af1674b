use Rattle.std.proofs.Common.{◌≡◌, [], map, sym, ◌∙◌, refl, arith}
use Rattle.std.proofs.lemmas.Bool.{eqb-true, eqb-false}
use Rattle.std.proofs.lemmas.List.{nil_from_length}
use Rattle.age_format.proofs.Stanzas.{no_header, reads_no_words, reads_no_tag, reads_header, split_first}
use Rattle.age_format.proofs.parse.header_at.Goals as goal

pub returns-in_default : goal.returns-in_default
returns-in_default c = sym (no_header c.args.text.now c.in_default.ensures.cases)

pub returns-in_default-2 : goal.returns-in_default-2
returns-in_default-2 c =
    let start = c.in-Some.ensures.cases in
    sym (reads_no_words c.args.text.now c.in-Some.text.now start.0 start.1 (rw c.in_default-2.is at c.in_ok-words.ensures))

pub returns-then-is_empty : goal.returns-then-is_empty
returns-then-is_empty c =
    let start = c.in-Some.ensures.cases in
    let words = c.in-Some-2.words in
    let none : words.len ≡ 0 = eqb-true _ 0 (sym c.is_empty.ensures ∙ c.if-is_empty.true) in
    let nil : map (λ word. word.now) words.items ≡ [] = rw (nil_from_length words.items (omega (arith, words.ok.0))) refl in
    sym (reads_no_tag c.args.text.now c.in-Some.text.now start.0 start.1 (map (λ word. word.now) words.items) c.in-Some-2.behind.now nil (rw c.in-Some-2.is at c.in_ok-words.ensures))

pub returns : goal.returns
returns c =
    let start = c.in-Some.ensures.cases in
    let words = c.in-Some-2.words in
    let some = eqb-false words.len 0 (sym c.is_empty.ensures ∙ c.if-is_empty.false) in
    let first = split_first (λ word. word.now) words.items c.remove-tag.result c.remove-tag.new.self.items (omega (arith, words.ok.0)) c.remove-tag.ensures.value c.remove-tag.ensures.items in
    rw (c.new-2.ensures, c.new.ensures.items) (sym (reads_header c.args.text.now c.in-Some.text.now start.0 start.1 (map (λ word. word.now) words.items) c.in-Some-2.behind.now
    c.remove-tag.result.now (map (λ word. word.now) c.remove-tag.new.self.items) first (rw c.in-Some-2.is at c.in_ok-words.ensures)))
