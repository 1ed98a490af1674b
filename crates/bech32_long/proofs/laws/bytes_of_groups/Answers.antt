use Rattle.bech32_long.proofs.Regrouped.{whole_bytes-groups}
use Rattle.bech32_long.proofs.laws.bytes_of_groups.Goals as goal

pub returns : goal.returns
returns c = whole_bytes-groups
