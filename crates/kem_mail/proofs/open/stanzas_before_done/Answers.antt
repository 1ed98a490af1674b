use Rattle.std.proofs.Common.{◌≡◌, ℕ, ◌∷◌, ◌++◌, [], map, Err, Vec, Global, refl, ap, sym, subst, ◌∙◌}
use Rattle.std.specs.Prelude.{Result}
use Rattle.std.specs.String.{string_bytes}
use Rattle.std.proofs.lemmas.List.{map_push}
use Rattle.std.proofs.lemmas.Result.{err_from_is_err_and}
use Rattle.age_format.specs.Outside.{Rose}
use Rattle.age_format.specs.Stanza.{stanza_of}
use Rattle.age_format.specs.declared.error.PhaseError.TheVariants.{ReadFault}
use Rattle.age_format.specs.declared.format.Stanza.{Stanza as HeldStanza}
use Rattle.age_format.proofs.Dones.{not_done, is_done}
use Rattle.age_format.proofs.Receipts.{receives_less}
use Rattle.kem_mail.proofs.Takings.{Given, few_behind, given_none, given_more, read_refused, taken_refused, phase_ended, phase_fault, fault_comes, left_ended, read_done, taken_done, read_unheld, refused_unheld, taken_unheld}
use Rattle.kem_mail.specs.declared.error.MailError.{MailError}
use Rattle.kem_mail.specs.declared.error.MailError.TheVariants.{ReadFault as MailReadFault, UnexpectedEof}
use Rattle.kem_mail.proofs.open.stanzas_before_done.Goals as goal

same_error : {X : Type 0} (a b : MailError) → ◌≡◌ {A = Result X MailError} (Err a) (Err b) → a ≡ b
same_error a b e = cc

pub loop-stanza-init : goal.loop-stanza-init
loop-stanza-init g c = record {
  given = rw (c.new-reader.ensures, c.new-stanzas.ensures.items) (given_none c.args.budget (g.S.Source.left c.args.src.now));
  no_fault = refl;
}

pub loop-stanza-smaller : goal.loop-stanza-smaller
loop-stanza-smaller g c =
    let left = g.S.Source.left in
    receives_less c.loop-stanza.reader c.receive_from.new.self (left c.loop-stanza.src) (left c.receive_from.new.source) (stanza_of c.in-Ok.stanza) c.in-Ok.ensures.given

pub loop-stanza-preserved : goal.loop-stanza-preserved
loop-stanza-preserved g c =
    let left = g.S.Source.left in
    let inv = c.loop-stanza.invariant in
    let stanza = c.in-Ok.stanza in
    let said = c.in-Ok.ensures in
    let stanzas = c.loop-stanza.stanzas.items in
    let pushed : map stanza_of c.push.new.self.items ≡ map stanza_of stanzas ++ stanza_of stanza ∷ [] = ap (map stanza_of) c.in_ok-push.ensures.items ∙ map_push stanza_of stanzas stanza in
    let more = given_more c.args.budget c.loop-stanza.reader c.receive_from.new.self (left c.loop-stanza.src) (left c.receive_from.new.source) (map stanza_of stanzas) (λ none. ap left (said.unread none)) (left c.args.src.now) (stanza_of stanza) inv.given said.given
    (few_behind c.loop-stanza.reader c.receive_from.new.self c.loop-stanza.src c.receive_from.new.source (left c.loop-stanza.src) (left c.receive_from.new.source) (stanza_of stanza) said.given said.behind)
    (not_done (string_bytes stanza.tag) (sym c.has_tag.ensures ∙ c.if-has_tag.false)) in
    record {
      given = subst (Given c.args.budget c.receive_from.new.self (left c.args.src.now) (left c.receive_from.new.source)) (sym pushed) more;
      no_fault = said.no_fault (λ e. cc e) ∙ inv.no_fault;
    }

pub refusal-requires-clause-no_unexpected_reply : goal.refusal-requires-clause-no_unexpected_reply
refusal-requires-clause-no_unexpected_reply g c = λ tag e. c.in-Err.ensures.no_unexpected_reply tag (ap Err e)

pub returns-in-Err-clause-read : goal.returns-in-Err-clause-read
returns-in-Err-clause-read g c =
    let left = g.S.Source.left in
    let said = c.in-Err.ensures in
    read_refused (λ (v : Vec HeldStanza Global). map stanza_of v.items) c.args.budget c.loop-stanza.reader c.receive_from.new.self (left c.args.src.now) (left c.loop-stanza.src) (left c.receive_from.new.source) (map stanza_of c.loop-stanza.stanzas.items) c.in-Err.phase c.refusal.result
    c.refusal.ensures c.loop-stanza.invariant.given said.kept
    (record { read_fault = λ e. let f = said.read_fault (ap Err e) in (f.1, f.2); invalid_data = λ e. said.invalid_data (ap Err e); unexpected_eof = λ e. said.unexpected_eof (ap Err e); too_much = λ e. said.too_much (ap Err e) })

pub returns-in-Err-clause-taken : goal.returns-in-Err-clause-taken
returns-in-Err-clause-taken g c =
    let left = g.S.Source.left in
    let said = c.in-Err.ensures in
    taken_refused (Vec HeldStanza Global) c.args.budget c.loop-stanza.reader c.receive_from.new.self (left c.args.src.now) (left c.loop-stanza.src) (left c.receive_from.new.source) (map stanza_of c.loop-stanza.stanzas.items) c.in-Err.phase c.refusal.result
    c.refusal.ensures c.loop-stanza.invariant.given said.kept (λ none. ap left (said.unread none)) said.behind_refusal
    (record { read_fault = λ e. let f = said.read_fault (ap Err e) in (f.1, f.2); invalid_data = λ e. said.invalid_data (ap Err e); unexpected_eof = λ e. said.unexpected_eof (ap Err e); too_much = λ e. said.too_much (ap Err e) })

pub returns-in-Err-clause-read_fault : goal.returns-in-Err-clause-read_fault
returns-in-Err-clause-read_fault g c = λ e.
    let rose = c.in-Err.ensures.read_fault (ap Err (phase_fault c.in-Err.phase c.refusal.result c.refusal.ensures (same_error c.refusal.result MailReadFault e))) in
    subst (λ (n : ℕ). Rose n (g.S.Source.faults c.receive_from.new.source)) c.loop-stanza.invariant.no_fault rose.0

pub returns-in-Err-clause-no_fault : goal.returns-in-Err-clause-no_fault
returns-in-Err-clause-no_fault g c = λ not.
    c.in-Err.ensures.no_fault (λ e. let same : c.in-Err.phase ≡ ReadFault = cc in not (ap Err (fault_comes c.in-Err.phase c.refusal.result c.refusal.ensures same))) ∙ c.loop-stanza.invariant.no_fault

pub returns-in-Err-clause-ended : goal.returns-in-Err-clause-ended
returns-in-Err-clause-ended g c = λ e.
    let left = g.S.Source.left in
    let eof = c.in-Err.ensures.unexpected_eof (ap Err (phase_ended c.in-Err.phase c.refusal.result c.refusal.ensures (same_error c.refusal.result UnexpectedEof e))) in
    left_ended c.args.budget c.loop-stanza.reader (left c.args.src.now) (left c.loop-stanza.src) (left c.receive_from.new.source) (map stanza_of c.loop-stanza.stanzas.items) c.loop-stanza.invariant.given eof.2

pub returns-then-has_tag-clause-read : goal.returns-then-has_tag-clause-read
returns-then-has_tag-clause-read g c =
    let left = g.S.Source.left in
    let stanza = c.in-Ok.stanza in
    read_done c.args.budget c.loop-stanza.reader c.receive_from.new.self (left c.args.src.now) (left c.loop-stanza.src) (left c.receive_from.new.source) (map stanza_of c.loop-stanza.stanzas.items) (stanza_of stanza)
    c.loop-stanza.invariant.given c.in-Ok.ensures.given (is_done (string_bytes stanza.tag) (sym c.has_tag.ensures ∙ c.if-has_tag.true))

pub returns-then-has_tag-clause-taken : goal.returns-then-has_tag-clause-taken
returns-then-has_tag-clause-taken g c =
    let left = g.S.Source.left in
    let stanza = c.in-Ok.stanza in
    let said = c.in-Ok.ensures in
    taken_done c.args.budget c.loop-stanza.reader c.receive_from.new.self (left c.args.src.now) (left c.loop-stanza.src) (left c.receive_from.new.source) (map stanza_of c.loop-stanza.stanzas.items) (stanza_of stanza) c.loop-stanza.stanzas
    c.loop-stanza.invariant.given said.given (few_behind c.loop-stanza.reader c.receive_from.new.self c.loop-stanza.src c.receive_from.new.source (left c.loop-stanza.src) (left c.receive_from.new.source) (stanza_of stanza) said.given said.behind) (λ none. ap left (said.unread none)) (is_done (string_bytes stanza.tag) (sym c.has_tag.ensures ∙ c.if-has_tag.true))

pub returns-in_err-push-clause-read : goal.returns-in_err-push-clause-read
returns-in_err-push-clause-read g c =
    let p = err_from_is_err_and c.from_residual.result c.from_residual.ensures.1 in
    read_unheld (λ (v : Vec HeldStanza Global). map stanza_of v.items) c.args.budget (g.S.Source.left c.args.src.now) c.from_residual.result (p.1 ∙ ap Err p.2)

pub returns-in_err-push-clause-refused : goal.returns-in_err-push-clause-refused
returns-in_err-push-clause-refused g c =
    let p = err_from_is_err_and c.from_residual.result c.from_residual.ensures.1 in
    refused_unheld c.from_residual.result (p.1 ∙ ap Err p.2)

pub returns-in_err-push-clause-taken : goal.returns-in_err-push-clause-taken
returns-in_err-push-clause-taken g c =
    let left = g.S.Source.left in
    let stanza = c.in-Ok.stanza in
    let said = c.in-Ok.ensures in
    let stanzas = map stanza_of c.loop-stanza.stanzas.items in
    let more = given_more c.args.budget c.loop-stanza.reader c.receive_from.new.self (left c.loop-stanza.src) (left c.receive_from.new.source) stanzas (λ none. ap left (said.unread none)) (left c.args.src.now) (stanza_of stanza) c.loop-stanza.invariant.given said.given
    (few_behind c.loop-stanza.reader c.receive_from.new.self c.loop-stanza.src c.receive_from.new.source (left c.loop-stanza.src) (left c.receive_from.new.source) (stanza_of stanza) said.given said.behind)
    (not_done (string_bytes stanza.tag) (sym c.has_tag.ensures ∙ c.if-has_tag.false)) in
    let p = err_from_is_err_and c.from_residual.result c.from_residual.ensures.1 in
    taken_unheld c.args.budget c.receive_from.new.self (left c.args.src.now) (left c.receive_from.new.source) (stanzas ++ stanza_of stanza ∷ []) c.from_residual.result (p.1 ∙ ap Err p.2) more
