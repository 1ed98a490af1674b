use Rattle.std.proofs.Common.{◌≡◌, length, ap, ◌∙◌}
use Rattle.std.proofs.lemmas.List.{length-map}
use Rattle.gcm_core.specs.Aes.{shift_rows}
use Rattle.gcm_core.specs.private.Nibbles.{once}
use Rattle.gcm_core.proofs.Rounds.{shifted-lanes, sub_bytes-changed}
use Rattle.gcm_core.proofs.aes.shifted.Goals as goal

pub returns : goal.returns
returns c = λ s is.
    let len : length c.substituted.result ≡ 16 = ap length c.substituted.ensures ∙ length-map c.args.t once ∙ c.fits-t.0 in
    shifted-lanes c.substituted.result len ∙ ap shift_rows (c.substituted.ensures ∙ sub_bytes-changed s c.args.t c.fits-t.0 is)
