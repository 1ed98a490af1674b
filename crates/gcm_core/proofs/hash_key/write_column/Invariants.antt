use Rattle.std.proofs.Common.{◌≡◌, ℕ, ◌+◌, ◌*◌, ◌<◌, length, slice_index}
use Rattle.gcm_core.specs.private.Rows.{byte_of}
use Rattle.gcm_core.proofs.hash_key.write_column.Given as goal

abbrev pub invariant-loop-b : goal.invariant-loop-b
invariant-loop-b l =
    (length l.rows ≡ 512) × ((i : ℕ) → i < l.b → slice_index l.rows (32 * i + l.place) ≡ byte_of i l.product)
    × ((i other : ℕ) → i < 16 → other < l.place → slice_index l.rows (32 * i + other) ≡ slice_index l.fn.rows (32 * i + other))
