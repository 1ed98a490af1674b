use Rattle.std.proofs.Common.{◌≡◌, ◌-◌, ◌/◌, ◌^◌}
use Rattle.gcm_core.specs.FieldMul.{product_of}
use Rattle.gcm_core.specs.Ghash.{reduction_block}
use Rattle.gcm_core.proofs.ghash.byte_times.Given as goal

abbrev pub invariant-loop-i : goal.invariant-loop-i
invariant-loop-i l = l.product ≡ product_of 128 reduction_block l.i (l.a / 2 ^ (8 - l.i)) l.b
