use Rattle.std.proofs.Common.{◌≡◌, ◌*◌, take, length}
use Rattle.sha3.specs.Sponge.{state_bytes}
use Rattle.sha3.proofs.squeeze.first_bytes.Given as goal

-- the lanes so far are written
abbrev pub invariant-loop-k : goal.invariant-loop-k
invariant-loop-k l = record {
  size : length l.block ≡ 168;
  done : take (8 * l.k) l.block ≡ take (8 * l.k) (state_bytes l.state);
}
