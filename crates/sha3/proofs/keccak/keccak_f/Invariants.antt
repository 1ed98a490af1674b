use Rattle.std.proofs.Common.{◌≡◌}
use Rattle.sha3.specs.Keccak.{rounds}
use Rattle.sha3.proofs.keccak.keccak_f.Given as goal

-- the rounds so far
abbrev pub invariant-loop-ir : goal.invariant-loop-ir
invariant-loop-ir l = l.state ≡ rounds l.fn.a l.ir
