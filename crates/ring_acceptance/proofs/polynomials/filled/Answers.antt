use Rattle.std.proofs.Common.{◌<◌}
use Rattle.std.proofs.lemmas.List.Elements.{All-replicate}
use Rattle.ring_acceptance.proofs.polynomials.filled.Goals as goal

pub new-requires : goal.new-requires
new-requires c = All-replicate (λ x. x < 3329) 256 c.args.x c.requires
