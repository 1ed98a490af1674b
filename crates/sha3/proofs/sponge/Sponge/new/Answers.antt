use Rattle.std.proofs.Common.{refl, arith}
use Rattle.sha3.specs.Sponge.{absorbed}
use Rattle.sha3.proofs.Absorbing.{Absorbs-none}
use Rattle.sha3.proofs.sponge.Sponge.new.Goals as goal

pub returns : goal.returns
unfolding absorbed
returns g c = Absorbs-none g.row.RATE _ (omega arith) refl refl
