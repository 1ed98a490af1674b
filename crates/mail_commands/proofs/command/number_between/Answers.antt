use Rattle.std.proofs.Common.{◌≡◌, Ok, sym, ◌∙◌, inl, inr, arith}
use Rattle.std.proofs.lemmas.Fmt.{parse-decimal}
use Rattle.std.proofs.lemmas.Slice.Eq.{bytes_eq-Decides}
use Rattle.mail_commands.proofs.command.number_between.Goals as goal

pub returns-in_default-clause-none : goal.returns-in_default-clause-none
returns-in_default-clause-none c = λ n is least most.
    c.in_default.not-Ok n (parse-decimal 64 n c.args.word.now c.parse.result (omega (arith, most, c.requires)) (omega (arith, most, c.requires)) is c.parse.ensures.value.0)

pub returns-then-number-least-clause-none : goal.returns-then-number-least-clause-none
returns-then-number-least-clause-none c = λ n is least most.
    let parsed = parse-decimal 64 n c.args.word.now c.parse.result (omega (arith, most, c.requires)) (omega (arith, most, c.requires)) is c.parse.ensures.value.0 in
    let both : Ok c.in-Ok.number ≡ Ok n = sym c.in-Ok.is ∙ parsed in
    let same : c.in-Ok.number ≡ n = cc in
    elim c.then-number-least.either [ inl small ↦ omega (arith, same, least, small) | inr large ↦ omega (arith, same, most, large.1) ]

pub returns-else-eq-clause-none : goal.returns-else-eq-clause-none
returns-else-eq-clause-none c = λ n is least most.
    let parsed = parse-decimal 64 n c.args.word.now c.parse.result (omega (arith, most, c.requires)) (omega (arith, most, c.requires)) is c.parse.ensures.value.0 in
    let both : Ok c.in-Ok.number ≡ Ok n = sym c.in-Ok.is ∙ parsed in
    let same : c.in-Ok.number ≡ n = cc in
    let written : c.format.result.now ≡ c.args.word.now = c.format.ensures.text ∙ (rw same (sym is)) in
    let hit = (bytes_eq-Decides c.format.result.now c.args.word.now).1 written in
    let miss = c.if-eq.false in
    let eq = c.eq.ensures in
    cc
