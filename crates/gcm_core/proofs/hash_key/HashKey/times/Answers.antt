use Rattle.std.proofs.Common.{ap, ◌∙◌}
use Rattle.gcm_core.specs.Ghash.{block_product}
use Rattle.gcm_core.proofs.Hash.{zero-and}
use Rattle.gcm_core.proofs.hash_key.HashKey.times.Goals as goal

pub returns-clause-product : goal.returns-clause-product
returns-clause-product c = c.products_sum.ensures ∙ zero-and c.self.inside.subkey c.self.inside.subkey c.args.element ∙ ap (block_product c.args.element) c.self.view_is

pub returns-clause-within : goal.returns-clause-within
returns-clause-within c = rw c.self.view_is at c.self.invariant.1
