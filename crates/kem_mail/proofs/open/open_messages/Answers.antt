use Rattle.std.proofs.Common.{◌+◌, ℕ, length, drop, map, Vec, Global, inr, sym, ap, subst, ◌∙◌, arith}
use Rattle.std.specs.Prelude.{codes, Err}
use Rattle.std.proofs.lemmas.List.{length_push}
use Rattle.age_format.specs.Stanza.{stanza_of}
use Rattle.kem_mail.specs.Mail.{bodies, open_at}
use Rattle.kem_mail.proofs.Messages.{Progress, numbered, numbered_same, used-numbered, progress-start, progress-more, progress-refused, progress-end, opens-ok, opens-none, sealed_law}
use Rattle.kem_mail.proofs.Tags.{bodies_from-hit, bodies_from-miss, bodies_from-end}
use Rattle.kem_mail.proofs.open.open_messages.Goals as goal
use Rattle.kem_mail.proofs.open.open_messages.Goals.{then-has_tag+in-Ok+in_ok-push-in-Ok, else-has_tag}

pub loop-stanza-init : goal.loop-stanza-init
loop-stanza-init g c = rw c.new-messages.ensures (record {
  at = numbered_same c.args.ctx.now 0 c.requires;
  few = omega arith;
  opened = progress-start (open_at g.A.AeadImpl.BaseAead.open_of c.args.ctx.now) (bodies (codes "msg") (map stanza_of c.args.stanzas.now));
})

pub loop-stanza-preserved : goal.loop-stanza-preserved
loop-stanza-preserved g c =
    let aead = g.A.AeadImpl.BaseAead in
    let meaning = open_at aead.open_of c.args.ctx.now in
    let stanzas = c.args.stanzas.now in
    let i = c.loop-stanza.stanza-index in
    let stanza = c.stanza-item.result in
    let inv = c.loop-stanza.invariant in
    let all = bodies (codes "msg") (map stanza_of stanzas) in
    let sealed = (stanza_of stanza).body in
    let later = bodies (codes "msg") (map stanza_of (drop (i + 1) stanzas)) in
    let messages = c.loop-stanza.messages in
    elim c.if-has_tag.branch [
      | then-has_tag+in-Ok+in_ok-push-in-Ok w ↦
          let hit = bodies_from-hit (codes "msg") stanzas i stanza (omega arith) c.stanza-item.is (sym c.has_tag.ensures ∙ w.if-has_tag.true) in
          let view = λ (text : Vec ℕ Global). text.items in
          let text = opens-ok aead.open_of aead.TAG_SIZE c.args.ctx.now (length messages) sealed view c.loop-stanza.ctx w.in-Ok.text w.open.result inv.at w.in-Ok.is
          (rw w.as_slice.ensures.value at w.open.ensures.short) (rw w.as_slice.ensures.value at w.open.ensures.value) in
          let used = used-numbered w.open.new.self c.loop-stanza.ctx c.args.ctx.now (length messages) w.in-Ok.ensures.used inv.at (let few = inv.few in omega (arith, few)) in
          let pushed = length_push messages w.in-Ok.text.items in
          rw (w.ctx-is, w.messages-is, w.in_ok-push-in-Ok.ensures.pushed) (record {
            at = used ∙ ap (numbered c.args.ctx.now) (sym pushed);
            few = let few = inv.few in omega (arith, few, pushed);
            opened = progress-more meaning all messages sealed w.in-Ok.text.items later (subst (Progress meaning all messages) hit inv.opened) text;
          })
      | else-has_tag w ↦
          let miss = bodies_from-miss (codes "msg") stanzas i stanza (omega arith) c.stanza-item.is (sym c.has_tag.ensures ∙ w.if-has_tag.false) in
          rw (w.ctx-is, w.messages-is) (record {
            at = inv.at;
            few = let few = inv.few in omega (arith, few);
            opened = subst (Progress meaning all messages) miss inv.opened;
          })
    ]

pub returns : goal.returns
returns g c =
    let meaning = open_at g.A.AeadImpl.BaseAead.open_of c.args.ctx.now in
    let stanzas = c.args.stanzas.now in
    let all = bodies (codes "msg") (map stanza_of stanzas) in
    let none = bodies_from-end (codes "msg") stanzas c.loop-stanza.stanza-index (omega arith) in
    progress-end meaning all c.loop-stanza.messages (subst (Progress meaning all c.loop-stanza.messages) none c.loop-stanza.invariant.opened)

pub returns-in-Err-OpenError : goal.returns-in-Err-OpenError
returns-in-Err-OpenError g c =
    let aead = g.A.AeadImpl.BaseAead in
    let laws = g.met.A.AeadImpl.BaseAead in
    let meaning = open_at aead.open_of c.args.ctx.now in
    let stanzas = c.args.stanzas.now in
    let i = c.loop-stanza.stanza-index in
    let stanza = c.stanza-item.result in
    let inv = c.loop-stanza.invariant in
    let all = bodies (codes "msg") (map stanza_of stanzas) in
    let sealed = (stanza_of stanza).body in
    let later = bodies (codes "msg") (map stanza_of (drop (i + 1) stanzas)) in
    let messages = c.loop-stanza.messages in
    let hit = bodies_from-hit (codes "msg") stanzas i stanza (omega arith) c.stanza-item.is (sym c.has_tag.ensures ∙ c.if-has_tag.true) in
    let none = opens-none aead.open_of aead.TAG_SIZE c.args.ctx.now (length messages) sealed (λ (text : Vec ℕ Global). text.items) (sealed_law aead.open_of aead.seal_of aead.TAG_SIZE laws.opens_what_was_sealed laws.sealed_size)
    c.loop-stanza.ctx c.open.result inv.at (c.in-Err-OpenError.is ∙ ap Err c.in-Err-OpenError.field-0-is) (rw c.as_slice.ensures.value at c.open.ensures.value) in
    rw c.len.ensures (inr (progress-refused meaning all messages sealed later (subst (Progress meaning all messages) hit inv.opened) none))
