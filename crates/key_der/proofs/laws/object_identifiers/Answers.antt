use Rattle.std.proofs.Common.{refl}
use Rattle.key_der.specs.Keys.{oid}
use Rattle.key_der.proofs.laws.object_identifiers.Goals as goal

pub returns : goal.returns
unfolding oid
returns c = record { oid_512 = refl; oid_768 = refl; oid_1024 = refl }
