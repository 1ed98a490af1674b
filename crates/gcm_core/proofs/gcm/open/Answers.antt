use Rattle.std.proofs.Common.{◌≡◌, ◌∙◌, true, false, sym}
use Rattle.std.proofs.lemmas.Bool.{both_ways}
use Rattle.gcm_core.specs.Aes.{cipher}
use Rattle.gcm_core.specs.Gcm.{fits_limits}
use Rattle.gcm_core.proofs.Sealing.{fits_limits-tested, gcm_ad-made, gcm_ad-refused, none_and_none, some_or_none}
use Rattle.gcm_core.proofs.gcm.open.Goals as goal

pub returns-then-not-is_within_limits-clause-refused : goal.returns-then-not-is_within_limits-clause-refused
returns-then-not-is_within_limits-clause-refused c =
    let past : fits_limits c.args.aad.now c.args.buf.now ≡ false =
    fits_limits-tested c.args.aad.now c.args.buf.now c.is_within_limits.result false c.is_within_limits.ensures c.if-not-is_within_limits.true in
    none_and_none _ (gcm_ad-refused (cipher c.args.round_keys.now) c.args.nonce.now c.args.aad.now c.args.buf.now c.args.tag.now c.told-tag
    (λ h. both_ways _ past h.0))

pub returns-then-not-is_same_tag-clause-refused : goal.returns-then-not-is_same_tag-clause-refused
returns-then-not-is_same_tag-clause-refused c =
    none_and_none _ (gcm_ad-refused (cipher c.args.round_keys.now) c.args.nonce.now c.args.aad.now c.args.buf.now c.args.tag.now c.told-tag
    (λ h. both_ways _ c.if-not-is_same_tag.true (c.is_same_tag.ensures.1 (h.1 ∙ sym c.tag_of-expected.ensures))))

pub returns-clause-opened : goal.returns-clause-opened
returns-clause-opened c =
    gcm_ad-made (cipher c.args.round_keys.now) c.args.nonce.now c.args.aad.now c.args.buf.now c.args.tag.now _ _ c.told-tag
    (fits_limits-tested c.args.aad.now c.args.buf.now c.is_within_limits.result true c.is_within_limits.ensures c.if-not-is_within_limits.false)
    (c.is_same_tag.ensures.0 c.if-not-is_same_tag.false ∙ c.tag_of-expected.ensures) c.text_start.ensures c.gctr.ensures

pub returns-clause-refused : goal.returns-clause-refused
returns-clause-refused c = some_or_none _ _ (returns-clause-opened c)
