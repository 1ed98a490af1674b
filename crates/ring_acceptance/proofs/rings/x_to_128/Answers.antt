use Rattle.std.proofs.Common.{◌<◌, replicate, arith}
use Rattle.std.proofs.lemmas.List.Elements.{All-replicate, All-set}
use Rattle.ring_acceptance.proofs.rings.x_to_128.Goals as goal

pub new-requires : goal.new-requires
new-requires c = All-set (λ x. x < 3329) (replicate 256 0) 128 1 (omega arith) (All-replicate (λ x. x < 3329) 256 0 (omega arith))
