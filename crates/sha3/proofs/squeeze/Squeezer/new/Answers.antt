use Rattle.std.proofs.Common.{refl, arith, ◌∙◌, ap, take}
use Rattle.std.proofs.lemmas.List.{take-take}
use Rattle.sha3.specs.Sponge.{state_bytes}
use Rattle.sha3.proofs.Squeezing.{Squeezes-none}
use Rattle.sha3.proofs.squeeze.Squeezer.new.Goals as goal

pub returns : goal.returns
returns g c = Squeezes-none g.row.RATE _ c.args.state.now c.told-state refl refl
    (ap (take g.row.RATE) c.first_bytes-block.ensures ∙ take-take g.row.RATE 168 (state_bytes c.args.state.now) (omega arith))
