use Rattle.hpke.proofs.LatticeRefusals.{lattice_decap-seeded}
use Rattle.hpke.proofs.lattice.LatticeKemKem.decap.Goals as goal

pub returns-then-is_some-clause-without_sender : goal.returns-then-is_some-clause-without_sender
returns-then-is_some-clause-without_sender g c =
    rw (← c.sk_recip.view_is)
    (lattice_decap-seeded g.P.ParameterSet.set g.H.KemHash.family c.sk_recip.inside.seed c.sk_recip.inside.key c.args.encapped_key.now c.sk_recip.invariant)

pub returns-in-Err-clause-without_sender : goal.returns-in-Err-clause-without_sender
returns-in-Err-clause-without_sender g c =
    rw (← c.sk_recip.view_is)
    (lattice_decap-seeded g.P.ParameterSet.set g.H.KemHash.family c.sk_recip.inside.seed c.sk_recip.inside.key c.args.encapped_key.now c.sk_recip.invariant)
