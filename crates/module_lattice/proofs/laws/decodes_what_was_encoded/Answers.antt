use Rattle.module_lattice.proofs.Encoding.{decoded_each-groups}
use Rattle.module_lattice.proofs.laws.decodes_what_was_encoded.Goals as goal

pub returns : goal.returns
returns c = decoded_each-groups
