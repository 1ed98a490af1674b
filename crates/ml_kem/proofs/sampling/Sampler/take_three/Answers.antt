use Rattle.ml_kem.proofs.Taken.{three-taken}
use Rattle.ml_kem.proofs.sampling.Sampler.take_three.Goals as goal

pub returns : goal.returns
returns c = three-taken c.args.self.now c.args.b0 c.args.b1 c.args.b2 _ _ c.take_number.ensures c.take_number-2.ensures
