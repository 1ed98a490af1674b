use Rattle.std.proofs.Common.{◌*◌, ◌++◌, [], ◌∷◌}
use Rattle.sha3.specs.Hashers.{Gave128}
use Rattle.sha3_family.proofs.sha3_hash.Sha3HashKemHash.xof_block.Given as goal

abbrev pub invariant-loop-block : goal.invariant-loop-block
invariant-loop-block l = Gave128 l.reader (l.rho ++ l.a ∷ l.b ∷ []) (168 * l._block)
