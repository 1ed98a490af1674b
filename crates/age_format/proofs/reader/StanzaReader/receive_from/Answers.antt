use Rattle.std.proofs.Common.{◌≡◌, ℕ, List, [], ◌++◌, refl, ap, sym, subst, ◌∙◌, inl, inr}
use Rattle.age_format.specs.declared.error.PhaseError.TheVariants.{ReadFault}
use Rattle.age_format.specs.Stanza.{IsFront, stanza_of}
use Rattle.age_format.specs.Receiving.{Held}
use Rattle.age_format.proofs.Refusals.{on_err, err_as, same_err}
use Rattle.age_format.proofs.Receipts.{FewBehind, receives_none, receives_both, receives_read, receives_held, behind_last, little_behind}
use Rattle.age_format.proofs.reader.StanzaReader.receive_from.Goals as goal

pub loop-stanza-init : goal.loop-stanza-init
loop-stanza-init g c = record {
  received = receives_none c.args.self.now (g.S.Source.left c.args.source.now);
  unread = λ _. (refl, refl);
  last = inl (refl, refl);
  no_fault = refl;
}

pub loop-stanza-preserved : goal.loop-stanza-preserved
loop-stanza-preserved g c =
    let left = g.S.Source.left in
    let inv = c.loop-stanza.invariant in
    let front = c.in_ok-stanza.ensures.front c.in-Front.is in
    let read = c.in_ok-read_piece-in-Front.ensures.read in
    let held : c.read_piece.new.self.bytes ≡ c.loop-stanza.self.bytes ++ read.0 = read.1 ∙ ap (λ (t : List ℕ). t ++ read.0) front.1 in
    let more = receives_read c.loop-stanza.self c.read_piece.new.self (left c.loop-stanza.source) (left c.read_piece.new.source) read.0 held (sym c.look.ensures.budget ∙ read.4) read.5 in
    record {
      received = receives_both c.args.self.now c.loop-stanza.self c.read_piece.new.self (left c.args.source.now) (left c.loop-stanza.source) (left c.read_piece.new.source) [] [] inv.received more;
      unread = λ none. absurd (none (subst (λ (h : Held). IsFront h.bytes) (inv.unread none).0 front.0));
      last = inr (c.loop-stanza.self.bytes, read.0, held, front.0, read.2);
      no_fault = c.in_ok-read_piece-in-Front.ensures.no_fault (λ none. absurd cc) ∙ inv.no_fault;
    }

pub returns-in-Stanza-clause-given : goal.returns-in-Stanza-clause-given
returns-in-Stanza-clause-given g c =
    let left = g.S.Source.left in
    let stanza = c.in_ok-stanza.ensures.stanza c.in-Stanza.stanza c.in-Stanza.is in
    let last = receives_held c.loop-stanza.self c.look.new.self (left c.loop-stanza.source) (stanza_of c.in-Stanza.stanza) stanza.0 stanza.1 c.look.ensures.budget in
    receives_both c.args.self.now c.loop-stanza.self c.look.new.self (left c.args.source.now) (left c.loop-stanza.source) (left c.loop-stanza.source) [] _ c.loop-stanza.invariant.received last

pub returns-in-Stanza-clause-behind : goal.returns-in-Stanza-clause-behind
returns-in-Stanza-clause-behind g c =
    let stanza = c.in_ok-stanza.ensures.stanza c.in-Stanza.stanza c.in-Stanza.is in
    little_behind c.args.self.now c.loop-stanza.self c.look.new.self c.args.source.now c.loop-stanza.source (stanza_of c.in-Stanza.stanza) c.loop-stanza.invariant.last stanza.0 stanza.1 c.look.ensures.budget

pub returns-in_err-stanza-clause-behind_refusal : goal.returns-in_err-stanza-clause-behind_refusal
returns-in_err-stanza-clause-behind_refusal g c =
    let same = sym c.in_err-stanza.ensures.memory in
    on_err {P = FewBehind c.args.self.now.bytes c.look.new.self.bytes} c.from_residual.result (λ none stanza rest is e. behind_last c.args.self.now c.loop-stanza.self c.args.source.now c.loop-stanza.source rest stanza c.loop-stanza.invariant.last is (same ∙ e) none)

pub returns-in_err-read_piece-in-Front-clause-behind_refusal : goal.returns-in_err-read_piece-in-Front-clause-behind_refusal
returns-in_err-read_piece-in-Front-clause-behind_refusal g c =
    let front = c.in_ok-stanza.ensures.front c.in-Front.is in
    let held : c.read_piece.new.self.bytes ≡ c.loop-stanza.self.bytes = ap (λ (h : Held). h.bytes) c.in_err-read_piece-in-Front.ensures.unread.0 ∙ front.1 in
    on_err {P = FewBehind c.args.self.now.bytes c.read_piece.new.self.bytes} c.from_residual-in_err-read_piece-in-Front.result (λ none stanza rest is e. behind_last c.args.self.now c.loop-stanza.self c.args.source.now c.loop-stanza.source rest stanza c.loop-stanza.invariant.last is (sym held ∙ e) none)

pub returns-in_err-read_piece-in-Front-clause-no_fault : goal.returns-in_err-read_piece-in-Front-clause-no_fault
returns-in_err-read_piece-in-Front-clause-no_fault g c other = c.in_err-read_piece-in-Front.ensures.no_fault (λ is. other (err_as c.from_residual-in_err-read_piece-in-Front.result c.in_err-read_piece-in-Front.field-0.0 ReadFault c.from_residual-in_err-read_piece-in-Front.ensures.1 (same_err _ _ is))) ∙ c.loop-stanza.invariant.no_fault
