use Rattle.std.proofs.Common.{◌≡◌, ◌+◌, ◌-◌, ◌*◌, ◌^◌, ◌<◌}
use Rattle.std.specs.Prelude.{bit_xor}
use lib.Lanes.{number_l}
use Rattle.gcm_core.specs.private.Rows.{product_byte}
use Rattle.gcm_core.proofs.Shifts.{folded}
use Rattle.gcm_core.proofs.Sums.{summed_rows}
use Rattle.gcm_core.proofs.hash_key.products_sum.Given as goal

abbrev pub invariant-loop-j : goal.invariant-loop-j
invariant-loop-j l =
    (folded (number_l 256 l.lower) (number_l 256 l.upper) ≡ bit_xor (summed_rows (product_byte l.x) (l.j + 1) (15 - l.j) l.first) (summed_rows (product_byte l.y) (l.j + 1) (15 - l.j) l.second))
    × (number_l 256 l.lower < 2 ^ 128) × (number_l 256 l.upper < 2 ^ (8 * l.j))
