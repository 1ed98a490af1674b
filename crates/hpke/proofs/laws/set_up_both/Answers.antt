use Rattle.std.proofs.Common.{List, ℕ}
use Rattle.rand_core.specs.Stream.{fill_bytes}
use Rattle.hpke.specs.RecipientMode.{recipient_mode, recipient_sender}
use Rattle.hpke.specs.SenderMode.{sender_mode, sender_identity}
use Rattle.hpke.specs.Schedule.{suite_of}
use Rattle.hpke.proofs.BothSides.{both_sides}
use Rattle.hpke.proofs.laws.set_up_both.Goals as goal

pub returns-in-Ok-clause-same : goal.returns-in-Ok-clause-same
returns-in-Ok-clause-same g c =
    both_sides (suite_of g.K.Kem.KEM_ID g.D.Kdf.kdf g.A.Aead.aead) (sender_mode c.args.mode_sender.now) (recipient_mode c.args.mode_recip.now) c.args.info.now
    (g.K.Kem.encap_of (g.K.PublicKey.Serializable.bytes c.args.pk_recip.now)
    (sender_identity g.K.PrivateKey.Serializable.bytes g.K.PublicKey.Serializable.bytes c.args.mode_sender.now)
    (fill_bytes 32 (g.R.Rng.stream c.args.csprng.now)).0)
    (λ (enc : List ℕ). g.K.Kem.decap_of (g.K.PrivateKey.Serializable.bytes c.args.sk_recip.now)
    (recipient_sender g.K.PublicKey.Serializable.bytes c.args.mode_recip.now) enc)
    (g.K.EncappedKey.Serializable.bytes c.in_ok-encapped_key.encapped_key) c.in_ok-encapped_key.sender c.in-Ok.recipient
    c.in_ok-encapped_key.ensures.value c.in-Ok.ensures.value c.requires.mode c.requires.secret
