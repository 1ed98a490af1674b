use Rattle.gcm_core.proofs.aes.changed_key.Goals as goal

pub returns : goal.returns
returns c = (c.with_affine.ensures.value, c.with_affine.ensures.bytes)
