use Rattle.std.proofs.Common.{◌≡◌, ◌^◌, ◌<◌, take, map}
use Rattle.bech32_long.specs.private.Register.{register_after}
use Rattle.bech32_long.proofs.checksum.after_values.Given as goal

abbrev pub invariant-loop-value : goal.invariant-loop-value
invariant-loop-value l = (l.register ≡ register_after l.initial.register (map (λ x. x) (take l.value-index l.values))) × (l.register < 2 ^ 30)
