-- The sum of GHASH taken in piece by piece, which private functions compute. No public clause cites it,
-- and nothing in it has to be believed.
use Rattle.std.specs.Prelude.{ℕ, List, length, bit_xor}
use Rattle.gcm_core.specs.Ghash.{block_power, block_product, weighted_sum}

-- the sum over blocks that have given the sum y, and over the further blocks xs
abbrev pub continued : ℕ → ℕ → List ℕ → ℕ
continued h y xs = bit_xor (block_product y (block_power h (length xs))) (weighted_sum h xs)
