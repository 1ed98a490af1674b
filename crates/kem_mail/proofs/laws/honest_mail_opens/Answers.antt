use Rattle.kem_mail.proofs.Honest.{honest_opens}
use Rattle.kem_mail.proofs.laws.honest_mail_opens.Goals as goal

pub returns : goal.returns
returns g c = λ set family kdf aead seed info key messages m text rest budget is there bytes inside sent fits.
    let impl = g.A.AeadImpl.BaseAead in
    honest_opens set family kdf aead impl.seal_of impl.open_of g.met.A.AeadImpl.BaseAead.opens_what_was_sealed seed info key messages m text rest budget is there bytes inside sent fits
