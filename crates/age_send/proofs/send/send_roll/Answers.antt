use Rattle.std.proofs.Common.{◌≡◌, List, ℕ, Option, Some, sym, ap, subst, ◌∙◌}
use Rattle.std.specs.Prelude.{IfSome}
use Rattle.std.specs.Option.{option_map}
use Rattle.age_format.specs.Outside.{Wrote}
use Rattle.age_format.specs.Stanza.{IsBytes, spelling, stanza_of}
use Rattle.age_format.specs.declared.format.Stanza.{Stanza as Held}
use Rattle.age_format.specs.declared.error.PhaseError.TheVariants.{WriteFault}
use Rattle.age_send.specs.Sending.{drawn_roll, rolled_text}
use Rattle.age_send.specs.private.Rolling.{Rolled}
use Rattle.age_send.proofs.Greases.{roll_stanza}
use Rattle.age_send.proofs.Sends.{wrote_of, wrote_on_ok}
use Rattle.age_send.proofs.send.send_roll.Goals as goal

pub returns-in-Some-clause-sent : goal.returns-in-Some-clause-sent
returns-in-Some-clause-sent g c =
    let sink = g.W.Sink in
    let before = g.G.Rng.stream c.args.rng.now in
    let after = g.G.Rng.stream c.roll.new.rng in
    let grease = c.in-Some.grease in
    let drawn : Some (stanza_of grease) ≡ (drawn_roll before).0 = sym (ap (option_map stanza_of) c.in-Some.is) ∙ c.in_ok-made.ensures.value in
    let bytes : IsBytes grease.body.items = subst (λ (o : Option Held). IfSome o (λ x. IsBytes x.body.items)) c.in-Some.is c.in_ok-made.ensures.bytes in
    let written = rw (c.as_str.ensures.value, c.as_slice.ensures.value, c.as_slice-in-Some.ensures.value) at c.write_parts.ensures in
    let wrote = wrote_of sink.got sink.faults sink.plan c.args.sink.now c.write_parts.new.sink c.write_parts.result (spelling (stanza_of grease)) written in
    wrote_on_ok c.phase.result c.write_parts.result WriteFault
    (Rolled sink.got sink.faults sink.plan c.args.sink.now c.write_parts.new.sink before after) c.phase.ensures.err wrote
    (λ w. record {
      wrote = subst (λ (t : List ℕ). Wrote sink.got sink.faults sink.plan c.args.sink.now c.write_parts.new.sink t) (ap rolled_text drawn) w;
      stands = c.roll.ensures.rest;
      is = roll_stanza before (stanza_of grease) drawn bytes;
    })
