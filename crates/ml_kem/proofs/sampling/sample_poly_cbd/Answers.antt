use Rattle.std.proofs.Common.{◌<◌, All, subst, sym, ◌∙◌}
use Rattle.ml_kem.proofs.Taken.{All-cbd}
use Rattle.ml_kem.proofs.sampling.sample_poly_cbd.Goals.{then-eta-eq-NARROW, else-eta-eq-NARROW}
use Rattle.ml_kem.proofs.sampling.sample_poly_cbd.Goals as goal

pub new-requires : goal.new-requires
new-requires c = elim c.if-eta-eq-NARROW.branch [
  | then-eta-eq-NARROW w ↦ subst (All (λ x. x < 3329)) (sym (w.out-is ∙ w.fill_narrow_cbd.ensures)) (All-cbd 2 c.args.bytes.now)
  | else-eta-eq-NARROW w ↦ subst (All (λ x. x < 3329)) (sym (w.out-is ∙ w.fill_cbd.ensures)) (All-cbd c.args.eta c.args.bytes.now)
]
