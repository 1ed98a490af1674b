use Rattle.std.proofs.Common.{◌≡◌, ℕ, ◌+◌, ◌∷◌, [], ◌++◌, List, length, map, take, refl, sym, ap, ◌∙◌, arith}
use Rattle.std.specs.Prelude.{codes}
use Rattle.std.proofs.lemmas.List.{length_push, nil_from_length}
use Rattle.age_format.specs.Stanza.{stanza_of}
use Rattle.kem_mail.specs.Mail.{bodies}
use Rattle.kem_mail.proofs.Tags.{bodies_up_to-hit, bodies_up_to-miss, bodies_up_to-end}
use Rattle.kem_mail.proofs.open.key_body.Goals as goal
use Rattle.kem_mail.proofs.open.key_body.Goals.{then-has_tag, else-has_tag}

-- the first of one
one_more : (front more : List (List ℕ)) (body : List ℕ) (count : ℕ) → count ≡ length front → more ≡ front ++ body ∷ [] → count + 1 ≡ 1 → more ≡ body ∷ []
one_more front more body count len is one =
    let nil : front ≡ [] = nil_from_length front (omega arith) in
    is ∙ ap (λ (t : List (List ℕ)). t ++ body ∷ []) nil

pub loop-stanza-init : goal.loop-stanza-init
loop-stanza-init c = record { count = refl; few = omega arith; found = λ e. absurd (cc e) }

pub loop-stanza-preserved : goal.loop-stanza-preserved
loop-stanza-preserved c =
    let stanzas = c.args.stanzas.now in
    let i = c.loop-stanza.stanza-index in
    let stanza = c.stanza-item.result in
    let inv = c.loop-stanza.invariant in
    let front = bodies (codes "kem") (map stanza_of (take i stanzas)) in
    elim c.if-has_tag.branch [
      | then-has_tag w ↦
          let hit = bodies_up_to-hit (codes "kem") stanzas i stanza (omega arith) c.stanza-item.is (sym c.has_tag.ensures ∙ w.if-has_tag.true) in
          rw (w.count-is, w.found-is, w.as_slice-found.ensures.value) (record {
            count = ap (λ (n : ℕ). n + 1) inv.count ∙ (sym (length_push front (stanza_of stanza).body) ∙ ap length (sym hit));
            few = let few = inv.few in omega (arith, few);
            found = λ one. one_more front _ (stanza_of stanza).body c.loop-stanza.count inv.count hit one;
          })
      | else-has_tag w ↦
          let miss = bodies_up_to-miss (codes "kem") stanzas i stanza (omega arith) c.stanza-item.is (sym c.has_tag.ensures ∙ w.if-has_tag.false) in
          rw (w.count-is, w.found-is) (record {
            count = inv.count ∙ ap length (sym miss);
            few = let few = inv.few in omega (arith, few);
            found = λ one. miss ∙ inv.found one;
          })
    ]

pub returns-then-count-eq1 : goal.returns-then-count-eq1
returns-then-count-eq1 c =
    let stanzas = c.args.stanzas.now in
    let whole = bodies_up_to-end (codes "kem") stanzas c.loop-stanza.stanza-index (omega arith) in
    sym whole ∙ c.loop-stanza.invariant.found (omega arith)
