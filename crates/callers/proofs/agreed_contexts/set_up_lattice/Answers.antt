use Rattle.std.proofs.Common.{◌≡◌, ℕ, List, None, Some, refl, subst}
use Rattle.rand_core.specs.Stream.{fill_bytes}
use Rattle.hpke.specs.Lattice.{lattice_encap}
use Rattle.callers.proofs.agreed_contexts.set_up_lattice.Goals as goal

pub set_up_both-requires-clause-secret : goal.set_up_both-requires-clause-secret
set_up_both-requires-clause-secret g c = λ secret enc made.
    let set = g.P.ParameterSet.set in
    let family = g.H.KemHash.family in
    let m = (fill_bytes 32 (g.R.Rng.stream c.args.rng.now)).0 in
    let given = c.requires in
    c.honest_sides_agree.ensures.secret set family c.args.sk.now m given.0 g.P.ParameterSet.is_set given.1 given.3 given.4 None None (λ _. refl) secret enc
    (subst (λ (pk : List ℕ). lattice_encap set family pk None m ≡ Some (secret, enc)) given.2 made)
