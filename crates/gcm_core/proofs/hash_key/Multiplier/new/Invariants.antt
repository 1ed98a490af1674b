use Rattle.std.proofs.Common.{◌≡◌, ℕ, ◌+◌, ◌*◌, ◌<◌, slice_index}
use Rattle.gcm_core.specs.Ghash.{block_product}
use Rattle.gcm_core.specs.private.Rows.{byte_of, factor_of}
use Rattle.gcm_core.proofs.hash_key.Multiplier.new.Given as goal

abbrev pub invariant-loop-place : goal.invariant-loop-place
invariant-loop-place l = (b other : ℕ) → b < 16 → other < l.place → slice_index l.rows (32 * b + other) ≡ byte_of b (block_product (factor_of other) l.by)
