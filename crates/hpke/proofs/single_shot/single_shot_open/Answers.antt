use Rattle.hpke.specs.Nonce.{nonce_of}
use Rattle.hpke.proofs.SingleShots.{SingleShotAnswers-open, open_of-short}
use Rattle.hpke.proofs.single_shot.single_shot_open.Goals as goal

pub returns : goal.returns
returns g c =
    SingleShotAnswers-open _ c.open.result g.A.AeadImpl.BaseAead.open_of c.in_ok-ctx.ctx c.args.aad.now c.args.ciphertext.now
    g.A.AeadImpl.BaseAead.TAG_SIZE _ c.in_ok-ctx.ensures.value c.in_ok-ctx.ensures.number c.open.ensures.short c.open.ensures.value
    (open_of-short g.A.AeadImpl.BaseAead.seal_of g.A.AeadImpl.BaseAead.open_of g.A.AeadImpl.BaseAead.TAG_SIZE c.in_ok-ctx.ctx.key
    (nonce_of c.in_ok-ctx.ctx.base_nonce 0) c.args.aad.now c.args.ciphertext.now g.met.A.AeadImpl.BaseAead.opens_what_was_sealed
    g.met.A.AeadImpl.BaseAead.sealed_size)
