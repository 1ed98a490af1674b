use Rattle.std.proofs.Common.{rules}
use Rattle.dsa_ring.proofs.Multiples.{all-multiplied}
use Rattle.dsa_ring.proofs.arrays.scaled.Goals as goal

pub returns-clause-value : goal.returns-clause-value
returns-clause-value c =
    all-multiplied 8347681 c.args.values.now c.loop-i.out c.requires.size c.loop-i.invariant.size (λ k inside. c.loop-i.invariant.made k (search rules))
