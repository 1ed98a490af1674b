use Rattle.std.proofs.Common.{List, ℕ, ap, refl}
use Rattle.gcm_core.proofs.Rounds.{next-changed}
use Rattle.gcm_core.proofs.aes.next_state.Goals as goal

pub returns : goal.returns
returns c = λ w s n is has long.
    next-changed c.args.t c.substitutes.result.0 c.substitutes.result.1 c.args.key _ w s n c.fits-t (ap (λ (p : List ℕ × List ℕ). p.0) c.substitutes.ensures)
    (ap (λ (p : List ℕ × List ℕ). p.1) c.substitutes.ensures) refl is has long
