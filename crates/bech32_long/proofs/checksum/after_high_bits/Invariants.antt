use Rattle.std.proofs.Common.{◌≡◌, ◌^◌, ◌<◌, ◌/◌, take, map}
use Rattle.bech32_long.specs.private.Register.{register_after}
use Rattle.bech32_long.proofs.checksum.after_high_bits.Given as goal

abbrev pub invariant-loop-b : goal.invariant-loop-b
invariant-loop-b l = (l.register ≡ register_after l.initial.register (map (λ b. b / 32) (take l.b-index l.part))) × (l.register < 2 ^ 30)
