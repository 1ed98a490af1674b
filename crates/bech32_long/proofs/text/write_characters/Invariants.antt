use Rattle.bech32_long.specs.private.Lowered.{IsMapped}
use Rattle.bech32_long.specs.Text.{character}
use Rattle.bech32_long.proofs.text.write_characters.Given as goal

abbrev pub invariant-loop-value : goal.invariant-loop-value
invariant-loop-value l = IsMapped character l.initial.values l.values l.value-index
