use Rattle.std.proofs.Common.{◌≡◌, List, [], ◌∷◌, Option, None, Some, refl, sym, ap, subst, ◌∙◌, inl}
use Rattle.std.specs.Prelude.{IfSome, IsSome}
use Rattle.std.specs.Option.{option_map, option_to_list}
use Rattle.age_format.specs.declared.format.Stanza.{Stanza as Held-Stanza}
use Rattle.age_format.specs.declared.error.PhaseError.TheVariants.{NoMemory}
use Rattle.age_format.specs.Stanza.{Stanza, IsStanza, IsBytes, stanza_of}
use Rattle.age_format.proofs.Refusals.{on_err}
use Rattle.age_send.specs.Sending.{drawn_roll}
use Rattle.age_send.proofs.Greases.{roll_stanza}
use Rattle.age_core.specs.Asking.{Conversed, StopsBehind}
use Rattle.age_core.proofs.Asking.{conversed_none, ran_out_alone, stops_longer}
use Rattle.age_core.proofs.Handling.{if_err_at}
use Rattle.age_core.proofs.plugin.connection.Connection.ask_roll.Goals as goal

pub returns-in_err-made-clause-stops : goal.returns-in_err-made-clause-stops
returns-in_err-made-clause-stops g c =
    let source = g.R.Source in
    let sink = g.W.Sink in
    let made : Option Stanza = (drawn_roll (g.G.Rng.stream c.args.rng.now)).0 in
    if_err_at (StopsBehind source.left source.faults sink.got sink.faults sink.plan c.args.self.now c.args.self.now (option_to_list made) (option_to_list made) (option_to_list made) []) c.from_residual.result NoMemory c.from_residual.ensures.1
    (inl (ran_out_alone source.left source.faults sink.got sink.faults sink.plan c.args.self.now made c.in_err-made.ensures.memory))

pub returns-in_err-made-clause-made : goal.returns-in_err-made-clause-made
returns-in_err-made-clause-made g c = on_err c.from_residual.result c.in_err-made.ensures.memory

pub returns-in-None-clause-heard : goal.returns-in-None-clause-heard
returns-in-None-clause-heard g c =
    let source = g.R.Source in
    let sink = g.W.Sink in
    let none : (drawn_roll (g.G.Rng.stream c.args.rng.now)).0 ≡ None = sym c.in_ok-made.ensures.value ∙ ap (option_map stanza_of) c.in-None.is in
    ([], subst (λ (o : Option Stanza). Conversed source.left source.faults sink.got sink.faults sink.plan c.args.self.now c.args.self.now (option_to_list o) []) (sym none) (conversed_none source.left source.faults sink.got sink.faults sink.plan c.args.self.now))

pub ask-requires : goal.ask-requires
ask-requires g c =
    let before = g.G.Rng.stream c.args.rng.now in
    let grease = c.in-Some.grease in
    let drawn : Some (stanza_of grease) ≡ (drawn_roll before).0 = sym (ap (option_map stanza_of) c.in-Some.is) ∙ c.in_ok-made.ensures.value in
    let bytes : IsBytes grease.body.items = subst (λ (o : Option Held-Stanza). IfSome o (λ x. IsBytes x.body.items)) c.in-Some.is c.in_ok-made.ensures.bytes in
    let is : IsStanza (stanza_of grease) = subst (λ (o : Option Stanza). IfSome o IsStanza) (sym drawn) (roll_stanza before (stanza_of grease) drawn bytes) in
    rw (c.as_str.ensures.value, c.as_slice.ensures.value) (record { tag = is.tag; args = is.args })

pub returns-in_err-ask-in-Some-clause-stops : goal.returns-in_err-ask-in-Some-clause-stops
returns-in_err-ask-in-Some-clause-stops g c =
    let source = g.R.Source in
    let sink = g.W.Sink in
    let before = g.G.Rng.stream c.args.rng.now in
    let grease = c.in-Some.grease in
    let drawn : Some (stanza_of grease) ≡ (drawn_roll before).0 = sym (ap (option_map stanza_of) c.in-Some.is) ∙ c.in_ok-made.ensures.value in
    let one : List Stanza = stanza_of grease ∷ [] in
    let e = c.in_err-ask-in-Some.field-0.0 in
    let stops : StopsBehind source.left source.faults sink.got sink.faults sink.plan c.args.self.now c.ask.new.self [] one one [] e = rw (c.as_str.ensures.value, c.as_slice.ensures.value, c.as_slice-in-Some.ensures.value) at c.in_err-ask-in-Some.ensures.stops in
    if_err_at (StopsBehind source.left source.faults sink.got sink.faults sink.plan c.args.self.now c.ask.new.self (option_to_list (drawn_roll before).0) (option_to_list (drawn_roll before).0) (option_to_list (drawn_roll before).0) []) c.from_residual-in_err-ask-in-Some.result e c.from_residual-in_err-ask-in-Some.ensures.1
    (subst (λ (o : Option Stanza). StopsBehind source.left source.faults sink.got sink.faults sink.plan c.args.self.now c.ask.new.self (option_to_list o) (option_to_list o) (option_to_list o) [] e) drawn
    (stops_longer source.left source.faults sink.got sink.faults sink.plan c.args.self.now c.ask.new.self [] one one [] one [] [] e stops))

pub returns-in_err-ask-in-Some-clause-made : goal.returns-in_err-ask-in-Some-clause-made
returns-in_err-ask-in-Some-clause-made g c =
    let before = g.G.Rng.stream c.args.rng.now in
    let drawn : Some (stanza_of c.in-Some.grease) ≡ (drawn_roll before).0 = sym (ap (option_map stanza_of) c.in-Some.is) ∙ c.in_ok-made.ensures.value in
    on_err c.from_residual-in_err-ask-in-Some.result (subst (λ (o : Option Stanza). IsSome o) drawn refl)

pub returns-in_ok-ask-in-Some-clause-heard : goal.returns-in_ok-ask-in-Some-clause-heard
returns-in_ok-ask-in-Some-clause-heard g c =
    let source = g.R.Source in
    let sink = g.W.Sink in
    let before = g.G.Rng.stream c.args.rng.now in
    let grease = c.in-Some.grease in
    let drawn : Some (stanza_of grease) ≡ (drawn_roll before).0 = sym (ap (option_map stanza_of) c.in-Some.is) ∙ c.in_ok-made.ensures.value in
    let replies : List Stanza = stanza_of c.in_ok-ask-in-Some.field-0 ∷ [] in
    let heard : Conversed source.left source.faults sink.got sink.faults sink.plan c.args.self.now c.ask.new.self (stanza_of grease ∷ []) replies = rw (c.as_str.ensures.value, c.as_slice.ensures.value, c.as_slice-in-Some.ensures.value) at c.in_ok-ask-in-Some.ensures.heard in
    (replies, subst (λ (o : Option Stanza). Conversed source.left source.faults sink.got sink.faults sink.plan c.args.self.now c.ask.new.self (option_to_list o) replies) drawn heard)
