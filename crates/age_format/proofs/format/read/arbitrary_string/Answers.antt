use Rattle.age_format.proofs.Words.{visible_utf8}
use Rattle.age_format.proofs.format.read.arbitrary_string.Goals as goal

pub unreachable-requires : goal.unreachable-requires
unreachable-requires c = c.in_default.ensures.cases.0 (visible_utf8 _ c.run_len-n.ensures.run)
