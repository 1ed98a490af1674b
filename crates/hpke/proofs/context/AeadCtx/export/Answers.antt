use Rattle.std.proofs.Common.{◌≡◌, ◌∙◌, length, ap}
use Rattle.hpke.specs.Schedule.{KdfAlgorithm, AeadAlgorithm, Suite, Context, suite_of, suite_id}
use Rattle.hpke.proofs.Schedules.{export-is}
use Rattle.hpke.proofs.context.AeadCtx.export.Goals as goal

pub returns-in-Ok-clause-output : goal.returns-in-Ok-clause-output
returns-in-Ok-clause-output g c =
    let kdf : KdfAlgorithm = record {
      hash = g.D.HashImpl.HkdfHash.hash_of;
      block_size = g.D.HashImpl.HkdfHash.BLOCK_SIZE;
      digest_size = g.D.HashImpl.HkdfHash.DIGEST_SIZE;
      kdf_id = g.D.Kdf.KDF_ID;
    } in
    let aead : AeadAlgorithm = record {
      key_size = g.A.AeadImpl.BaseAead.KEY_SIZE;
      nonce_size = g.A.AeadImpl.BaseAead.NONCE_SIZE;
      aead_id = g.A.Aead.AEAD_ID;
    } in
    let suite : Suite = suite_of g.K.Kem.KEM_ID kdf aead in
    let ids : c.context_suite_id-suite_id.result ≡ suite_id suite =
    rw (g.met.D.Kdf.kdf_is, g.met.A.Aead.aead_is) at c.context_suite_id-suite_id.ensures in
    let secret : c.as_slice.result.now ≡ c.args.self.now.exporter_secret =
    c.as_slice.ensures ∙ ap (λ (ctx : Context). ctx.exporter_secret) c.self.view_is in
    rw (g.met.D.Kdf.kdf_is, g.met.A.Aead.aead_is) (export-is suite c.args.self.now c.args.exporter_ctx.now
    c.context_suite_id-suite_id.result c.as_slice.result.now c.labeled_expand.new.out (length c.args.out_buf.now)
    ids secret (c.in-Ok.ensures.output c.as_slice.result.now c.from_prk-hkdf.ensures))
