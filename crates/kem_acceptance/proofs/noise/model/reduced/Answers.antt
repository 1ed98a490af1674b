use Rattle.std.proofs.Common.{arith}
use Rattle.std.proofs.lemmas.List.{get_or_default}
use Rattle.kem_acceptance.proofs.noise.model.reduced.Goals as goal

pub new-requires : goal.new-requires
new-requires c = λ k d within. rw (get_or_default c.loop-i.values k d 0 within) (c.loop-i.invariant.1 k (omega arith))
