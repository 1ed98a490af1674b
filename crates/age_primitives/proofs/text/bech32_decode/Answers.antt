use Rattle.std.proofs.Common.{refl}
use Rattle.age_primitives.proofs.text.bech32_decode.Goals as goal

-- the filter is called at the part that was read
pub hrp_filter-requires : goal.hrp_filter-requires
hrp_filter-requires g c = c.requires.hrp_filter _ _ c.in-Ok.ensures.read _ refl
