use Rattle.bech32_long.proofs.ReadLaws.{reading-encoding}
use Rattle.bech32_long.proofs.laws.reads_what_was_written.Goals as goal

pub returns : goal.returns
returns c = reading-encoding
