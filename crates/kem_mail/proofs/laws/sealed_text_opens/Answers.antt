use Rattle.std.proofs.Common.{None, refl}
use Rattle.hpke.specs.Bytes.{xor_bytes}
use Rattle.hpke.specs.Mask.{mask_decap, mask_encap, mask_public}
use Rattle.kem_mail.proofs.SenderTexts.{sender_text_opens, sender_text_opens_by_key}
use Rattle.kem_mail.proofs.laws.sealed_text_opens.Goals as goal

pub returns-clause-any : goal.returns-clause-any
returns-clause-any g c = λ suite info size encap decap messages draw shared key text rest budget made found long is fits.
    let aead = g.A.AeadImpl.BaseAead in
    sender_text_opens suite info size encap decap aead.seal_of aead.open_of g.met.A.AeadImpl.BaseAead.opens_what_was_sealed messages draw shared key text rest budget made found long is fits

pub returns-clause-lattice : goal.returns-clause-lattice
returns-clause-lattice g c = λ set family kdf aead seed info key messages m ct shared text rest budget has made found long is fits.
    let impl = g.A.AeadImpl.BaseAead in
    sender_text_opens_by_key set family kdf aead impl.seal_of impl.open_of g.met.A.AeadImpl.BaseAead.opens_what_was_sealed seed info key messages m ct shared text rest budget has made found long is fits

pub returns-clause-mask : goal.returns-clause-mask
returns-clause-mask g c = λ suite info sk draw messages text rest budget long is fits.
    let aead = g.A.AeadImpl.BaseAead in
    sender_text_opens suite info 32 (mask_encap (mask_public sk) None) (mask_decap sk None) aead.seal_of aead.open_of g.met.A.AeadImpl.BaseAead.opens_what_was_sealed messages draw (xor_bytes sk draw) draw text rest budget refl refl long is fits
