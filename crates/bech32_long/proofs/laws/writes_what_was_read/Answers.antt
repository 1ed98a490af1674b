use Rattle.bech32_long.proofs.ReadLaws.{encoding-reading}
use Rattle.bech32_long.proofs.laws.writes_what_was_read.Goals as goal

pub returns : goal.returns
returns c = encoding-reading
