use Rattle.std.proofs.Common.{refl, sym, arith}
use Rattle.age_format.specs.Stanza.{IsBytes}
use Rattle.age_format.specs.declared.format.read.ReadRefused.TheVariants.{NoMemory}
use Rattle.age_format.proofs.Refusals.{err_as}
use Rattle.age_format.proofs.Scans.{broken_no_front, whole_no_front}
use Rattle.age_format.proofs.Looks.{nothing_scanned, scanned_front, scanned_broken, scanned_none}
use Rattle.age_format.proofs.Stanzas.{stanza_sound}
use Rattle.age_format.proofs.format.read.age_stanza.Goals as goal

pub scan_on-requires : goal.scan_on-requires
scan_on-requires c = nothing_scanned c.args.input.now

pub returns-in-Text-clause-incomplete : goal.returns-in-Text-clause-incomplete
returns-in-Text-clause-incomplete c =
    let front = scanned_front c.args.input.now c.scan_on.result.0.seen c.scan_on.result.0.place c.scan_on.ensures.seen (c.scan_on.ensures.text c.in-Text.is) in
    ((λ _. front), (λ _. refl))

pub returns-in-Broken-clause-incomplete : goal.returns-in-Broken-clause-incomplete
returns-in-Broken-clause-incomplete c =
    ((λ e. absurd cc), (λ front. absurd (broken_no_front c.args.input.now (c.scan_on.ensures.broken c.in-Broken.is) front)))

pub returns-in-Broken-clause-error : goal.returns-in-Broken-clause-error
returns-in-Broken-clause-error c e = scanned_broken c.args.input.now (c.scan_on.ensures.broken c.in-Broken.is)

pub returns-in_err-stanza-clause-incomplete : goal.returns-in_err-stanza-clause-incomplete
returns-in_err-stanza-clause-incomplete c =
    let whole = c.scan_on.ensures.whole c.in-Whole.is in
    let memory = err_as c.from_residual.result NoMemory NoMemory c.from_residual.ensures.1 refl in
    ((λ e. absurd cc), (λ front. absurd (whole_no_front c.args.input.now whole.0 whole.1 front)))

pub returns-in_default-clause-incomplete : goal.returns-in_default-clause-incomplete
returns-in_default-clause-incomplete c =
    let whole = c.scan_on.ensures.whole c.in-Whole.is in
    ((λ e. absurd cc), (λ front. absurd (whole_no_front c.args.input.now whole.0 whole.1 front)))

pub returns-in_default-clause-error : goal.returns-in_default-clause-error
returns-in_default-clause-error c e =
    let whole = c.scan_on.ensures.whole c.in-Whole.is in
    scanned_none c.engine.result c.args.input.now whole.0 c.engine.ensures whole.1 (sym (rw c.in_default.is at c.in_ok-stanza.ensures.value))

pub returns-clause-read : goal.returns-clause-read
returns-clause-read c =
    let found = sym (rw c.in-Some.is at c.in_ok-stanza.ensures.value) in
    let bytes : IsBytes c.args.input.now = λ i. let fits = c.type_inv.input i in omega (arith, fits) in
    let spelled = stanza_sound c.engine.result c.engine.ensures c.args.input.now c.in-Some.stanza c.in-Some.rest.now bytes found in
    (record { tag = spelled.tag; args = spelled.args; body = rw c.in-Some.is at c.in_ok-stanza.ensures.bytes }, spelled.text_is)

pub returns-clause-incomplete : goal.returns-clause-incomplete
returns-clause-incomplete c =
    let whole = c.scan_on.ensures.whole c.in-Whole.is in
    ((λ e. absurd cc), (λ front. absurd (whole_no_front c.args.input.now whole.0 whole.1 front)))
