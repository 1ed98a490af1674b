use Rattle.gcm_core.specs.Aes.{cipher}
use Rattle.gcm_core.proofs.Sealing.{tag_of-made}
use Rattle.gcm_core.proofs.gcm.tag_of.Goals as goal

pub returns : goal.returns
returns c =
    tag_of-made (cipher c.args.round_keys.now) c.args.key.now c.args.nonce.now c.args.aad.now c.args.text.now c.ghash.result _ c.requires.subkey c.ghash.ensures c.tag_of_hash.ensures
