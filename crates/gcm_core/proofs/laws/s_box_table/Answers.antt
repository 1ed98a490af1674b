use Rattle.std.proofs.Common.{sym}
use Rattle.gcm_core.proofs.Bytes.{S_BOX_is}
use Rattle.gcm_core.proofs.laws.s_box_table.Goals as goal

pub returns : goal.returns
returns c = sym S_BOX_is
