use Rattle.std.proofs.Common.{◌≡◌, ◌-◌, ◌*◌, ◌^◌, ◌<◌, drop, length}
use Rattle.std.specs.Int.{div_ceil}
use Rattle.gcm_core.specs.Gcm.{padded}
use Rattle.gcm_core.specs.Ghash.{polynomials}
use Rattle.gcm_core.specs.private.Continued.{continued}
use Rattle.gcm_core.proofs.ghash.absorb.Given as goal

abbrev pub invariant-loop-i : goal.invariant-loop-i
invariant-loop-i l =
    (l.sum < 2 ^ 128) × (continued l.key l.sum (polynomials (div_ceil (length l.bytes) 16 - 2 * l.i) (drop (16 * (2 * l.i)) (padded l.bytes)))
    ≡ continued l.key l.earlier (polynomials (div_ceil (length l.bytes) 16) (padded l.bytes)))
