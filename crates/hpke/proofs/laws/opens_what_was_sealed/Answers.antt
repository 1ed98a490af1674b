use Rattle.hpke.specs.Nonce.{nonce_of}
use Rattle.hpke.proofs.laws.opens_what_was_sealed.Goals as goal

pub returns : goal.returns
returns g c = λ context number aad text sealed made.
    (g.met.A.AeadImpl.BaseAead.opens_what_was_sealed context.key (nonce_of context.base_nonce number) aad text sealed).1 made
