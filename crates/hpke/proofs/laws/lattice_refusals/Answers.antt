use Rattle.hpke.proofs.LatticeRefusals.{lattice_decap-sampled, lattice_derive-none, lattice_encap-none}
use Rattle.hpke.proofs.laws.lattice_refusals.Goals as goal

pub returns-clause-encap : goal.returns-clause-encap
returns-clause-encap c = lattice_encap-none

pub returns-clause-derive : goal.returns-clause-derive
returns-clause-derive c = lattice_derive-none

pub returns-clause-decap : goal.returns-clause-decap
returns-clause-decap c = lattice_decap-sampled
