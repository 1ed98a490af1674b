use Rattle.std.proofs.Common.{◌<◌}
use Rattle.std.proofs.lemmas.List.Elements.{All-replicate}
use Rattle.ring_acceptance.proofs.polynomials.pairs.Goals as goal

pub loop-i-init : goal.loop-i-init
loop-i-init c = All-replicate (λ x. x < 3329) 256 c.args.constant c.requires.first
