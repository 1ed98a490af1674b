use Rattle.std.proofs.Common.{◌≡◌, ◌<◌, true, true≢false, refl, sym, ap, ◌∙◌, arith, below_more}
use Rattle.std.proofs.lemmas.List.Elements.{All-same}
use Rattle.module_lattice.specs.Groups.{ungroup}
use Rattle.ml_kem.proofs.Reduced.{slice-piece}
use Rattle.ml_kem.proofs.encapsulation_key.is_reduced.Goals as goal

pub returns-then-not-is_polynomial_reduced : goal.returns-then-not-is_polynomial_reduced
returns-then-not-is_polynomial_reduced c = (
  λ t. absurd (true≢false (sym t)),
  λ all.
      let here : c.is_polynomial_reduced.result ≡ true = c.is_polynomial_reduced.ensures.1
      (All-same (λ x. x < 3329) _ _ (ap (ungroup 12) (slice-piece c.loop-i.i c.args.bytes.now)) (all c.loop-i.i c.loop-i-test.true)) in
      sym c.if-not-is_polynomial_reduced.true ∙ here,
)

pub loop-i-preserved : goal.loop-i-preserved
loop-i-preserved c =
    below_more _ _ c.loop-i.invariant
    (All-same (λ x. x < 3329) _ _ (sym (ap (ungroup 12) (slice-piece c.loop-i.i c.args.bytes.now)))
    (c.is_polynomial_reduced.ensures.0 c.if-not-is_polynomial_reduced.false))

pub returns : goal.returns
returns c = (λ t i lt. c.loop-i.invariant i (omega arith), λ all. refl)
