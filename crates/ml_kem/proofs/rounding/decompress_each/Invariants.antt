use Rattle.std.proofs.Common.{◌≡◌, ℕ, ◌<◌, ◌≤◌, get_or}
use Rattle.ml_kem.specs.Rounding.{decompress}
use Rattle.ml_kem.proofs.rounding.decompress_each.Given as goal

-- what is done, and what is still as it was
abbrev pub invariant-loop-value : goal.invariant-loop-value
invariant-loop-value l = record {
  done : (k : ℕ) → k < l.value-index → get_or l.values k 0 ≡ decompress l.d (get_or l.fn.values k 0);
  rest : (k : ℕ) → l.value-index ≤ k → get_or l.values k 0 ≡ get_or l.fn.values k 0;
}
