use Rattle.std.proofs.Common.{ap, ◌∙◌}
use Rattle.gcm_core.specs.Ghash.{block_of}
use Rattle.gcm_core.proofs.Reversal.{block_of-reversed}
use Rattle.gcm_core.proofs.ghash.block_of.Goals as goal

pub returns : goal.returns
returns c = c.reversed_bits.ensures ∙ block_of-reversed c.lanes_of.result c.lanes_of.ensures.size c.lanes_of.ensures.bytes ∙ ap block_of c.lanes_of.ensures.number
