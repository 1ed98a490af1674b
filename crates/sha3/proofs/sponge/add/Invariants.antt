use Rattle.std.proofs.Common.{◌≡◌, ℕ, ◌<◌, ◌≤◌, get_or, length}
use Rattle.std.specs.Prelude.{bit_xor}
use Rattle.sha3.specs.Sponge.{lane_of}
use Rattle.sha3.proofs.sponge.add.Given as goal

-- the lanes so far are added, and the others as they were
abbrev pub invariant-loop-k : goal.invariant-loop-k
invariant-loop-k l = record {
  size : length l.state ≡ 25;
  done : (j : ℕ) → j < l.k → get_or l.state j 0 ≡ bit_xor (get_or l.fn.state j 0) (lane_of l.block j);
  rest : (j : ℕ) → l.k ≤ j → get_or l.state j 0 ≡ get_or l.fn.state j 0;
}
