use Rattle.std.proofs.lemmas.List.{take-replicate}
use Rattle.hpke.proofs.tag.AeadTagDefault.default.Goals as goal

pub returns : goal.returns
returns g c = take-replicate g.A.AeadImpl.BaseAead.TAG_SIZE 32 0 g.met.A.AeadImpl.BaseAead.tag_size_in_range
