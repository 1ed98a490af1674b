use Rattle.hpke.proofs.context.context_suite_id.Goals as goal

pub returns : goal.returns
returns g c =
    rw (g.met.D.Kdf.kdf_is, g.met.A.Aead.aead_is) (cc (c.hpke_suite_id.ensures, c.KEM_ID.ensures, c.KDF_ID.ensures, c.AEAD_ID.ensures))
