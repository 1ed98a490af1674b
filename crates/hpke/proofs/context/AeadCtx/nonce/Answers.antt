use Rattle.std.proofs.Common.{◌∙◌}
use Rattle.hpke.proofs.context.AeadCtx.nonce.Goals as goal

pub returns-clause-size : goal.returns-clause-size
returns-clause-size g c = c.nonce.ensures.size ∙ c.self.invariant.0
