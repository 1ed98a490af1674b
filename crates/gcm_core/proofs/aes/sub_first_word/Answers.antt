use Rattle.std.proofs.Common.{◌∙◌, ap, map}
use Rattle.std.proofs.lemmas.Simd.{map-map}
use Rattle.gcm_core.specs.private.Nibbles.{changed, once}
use Rattle.gcm_core.proofs.Rounds.{sub_word-lanes}
use Rattle.gcm_core.proofs.aes.sub_first_word.Goals as goal

pub returns : goal.returns
returns c = sub_word-lanes c.args.lanes c.substituted.result c.fits-lanes (c.substituted.ensures ∙ ap (map once) c.changed.ensures.0 ∙ map-map once changed c.args.lanes)
