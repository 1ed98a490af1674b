use Rattle.std.proofs.Common.{◌≡◌, ◌+◌, drop}
use Rattle.std.specs.Option.{option_map}
use Rattle.key_der.specs.Reading.{first_difference}
use Rattle.key_der.proofs.shape.first_difference.Given as goal

-- what is left differs where the texts do
abbrev pub invariant-loop-i : goal.invariant-loop-i
invariant-loop-i l = first_difference l.header l.text
    ≡ option_map (λ p. l.i + p) (first_difference (drop l.i l.header) (drop l.i l.text))
