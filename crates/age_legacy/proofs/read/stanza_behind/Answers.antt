use Rattle.std.proofs.Common.{ℕ, List, refl, sym, subst, arith, inr}
use Rattle.std.proofs.lemmas.Grind.{common_steps}
use Rattle.age_legacy.specs.Legacy.{AreLines}
use Rattle.age_legacy.proofs.read.stanza_behind.Goals as goal

pub returns-in_default-clause-read : goal.returns-in_default-clause-read
returns-in_default-clause-read c =
    let none = rw c.in_default.is at c.in_ok-body.ensures in
    inr (record {
      goes_on = grind (arith, common_steps);
      no_lines = λ body lines. none body (subst (λ (t : List ℕ). AreLines t body) (sym c.chunks_len-n.ensures.chunks) lines);
      stanza_is = refl;
      rest_is = refl;
    })
