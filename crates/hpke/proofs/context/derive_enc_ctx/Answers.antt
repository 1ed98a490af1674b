use Rattle.std.proofs.Common.{◌≡◌, ◌∙◌}
use Rattle.hpke.specs.Schedule.{KdfAlgorithm, AeadAlgorithm, Suite, suite_of, suite_id, schedule_context}
use Rattle.hpke.proofs.Schedules.{schedule-is, schedule_context-is}
use Rattle.hpke.proofs.context.derive_enc_ctx.Goals as goal

pub returns-clause-value : goal.returns-clause-value
returns-clause-value g c =
    let kdf : KdfAlgorithm = record {
      hash = g.D.HashImpl.HkdfHash.hash_of;
      block_size = g.D.HashImpl.HkdfHash.BLOCK_SIZE;
      digest_size = g.D.HashImpl.HkdfHash.DIGEST_SIZE;
      kdf_id = g.D.Kdf.KDF_ID;
    } in
    let aead : AeadAlgorithm = record {
      key_size = g.A.AeadImpl.BaseAead.KEY_SIZE;
      nonce_size = g.A.AeadImpl.BaseAead.NONCE_SIZE;
      aead_id = g.A.Aead.AEAD_ID;
    } in
    let suite : Suite = suite_of g.K.Kem.KEM_ID kdf aead in
    let ids : c.context_suite_id-suite_id.result ≡ suite_id suite =
    rw (g.met.D.Kdf.kdf_is, g.met.A.Aead.aead_is) at c.context_suite_id-suite_id.ensures in
    let whole : c.schedule_context-context.result ≡ schedule_context suite c.args.mode c.args.info.now c.args.psk_id.now =
    schedule_context-is suite c.args.mode c.args.info.now c.args.psk_id.now c.context_suite_id-suite_id.result
    c.labeled_extract-psk_id_hash.result.0 c.labeled_extract-info_hash.result.0 c.schedule_context-context.result
    ids c.labeled_extract-psk_id_hash.ensures.prk c.labeled_extract-info_hash.ensures.prk c.schedule_context-context.ensures in
    let key : g.A.AeadImpl.BaseAead.key_of c.new.result ≡ c.expand_short-key.result = c.new.ensures ∙ c.as_slice.ensures in
    rw (g.met.D.Kdf.kdf_is, g.met.A.Aead.aead_is, key) (schedule-is suite c.args.mode c.args.shared_secret.now c.args.info.now c.args.psk.now c.args.psk_id.now
    c.context_suite_id-suite_id.result c.as_slice-info.result.now c.labeled_extract-secret.result.1
    c.expand_short-key.result c.expand_short.result c.expand_short-2.result
    c.KEY_SIZE.result c.NONCE_SIZE.result c.DIGEST_SIZE.result
    c.KEY_SIZE.ensures c.NONCE_SIZE.ensures c.DIGEST_SIZE.ensures
    ids (c.as_slice-info.ensures ∙ whole) c.labeled_extract-secret.ensures.hkdf
    c.expand_short-key.ensures.output c.expand_short.ensures.output c.expand_short-2.ensures.output)
