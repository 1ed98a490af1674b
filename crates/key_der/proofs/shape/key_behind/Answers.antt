use Rattle.std.proofs.Common.{◌≡◌, ◌≢◌, List, ℕ, ◌+◌, ◌-◌, length, length-drop, min, take, drop, None, Some, ◌++◌, sym, ap, ◌∙◌, arith}
use Rattle.std.proofs.lemmas.List.{take_all}
use Rattle.key_der.specs.Reading.{first_difference}
use Rattle.key_der.proofs.Differences.{first_difference-none, mismatch-byte, mismatch-length}
use Rattle.key_der.proofs.shape.key_behind.Goals as goal

pub returns-in-Some-clause-place : goal.returns-in-Some-clause-place
returns-in-Some-clause-place c =
    mismatch-byte c.args.header.now c.args.text.now c.args.size c.in-Some.place (sym c.first_difference.ensures ∙ c.in-Some.is)

pub returns-then-text-due-clause-place : goal.returns-then-text-due-clause-place
returns-then-text-due-clause-place c =
    let header : List ℕ = c.args.header.now in
    let text : List ℕ = c.args.text.now in
    let none : first_difference header text ≡ None = sym c.first_difference.ensures ∙ c.in_default.is in
    let other : length header + c.args.size ≢ length text = λ sized. c.if-text-due.true (omega arith) in
    let least : min (length header + c.args.size) (length text) ≡ c.min.result =
    ap (λ (n : ℕ). min (n + c.args.size) (length text)) c.told-header ∙ sym c.min.ensures in
    mismatch-length header text c.args.size none other ∙ ap (λ (n : ℕ). Some n) least

pub returns-clause-whole : goal.returns-clause-whole
returns-clause-whole c =
    let header : List ℕ = c.args.header.now in
    let text : List ℕ = c.args.text.now in
    let none : first_difference header text ≡ None = sym c.first_difference.ensures ∙ c.in_default.is in
    let rest : take (length text - 22) (drop 22 text) ≡ drop 22 text =
    take_all (length text - 22) (drop 22 text) (omega (arith, length-drop 22 text)) in
    first_difference-none header text none (omega arith)
    ∙ ap (λ (n : ℕ). header ++ drop n text) c.told-header ∙ ap (λ (xs : List ℕ). header ++ xs) (sym rest)
