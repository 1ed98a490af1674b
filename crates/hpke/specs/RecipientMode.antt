-- How a recipient sets up a context (RFC 9180, section 5, table 1).
use Rattle.std.specs.Prelude.{ℕ, List, [], Option, Some, None}
use Rattle.hpke.specs.Schedule.{Mode}
use Rattle.hpke.specs.declared.mode.PskBundle.{PskBundle}
use Rattle.hpke.specs.declared.mode.OpModeR.{OpModeR}
use Rattle.hpke.specs.declared.mode.OpModeR.TheVariants.{Base, Psk, Auth, AuthPsk}

-- a mode of this number, with the key and the identity of a bundle
abbrev pub with_bundle : ℕ → PskBundle → Mode
with_bundle number bundle = record { number = number; psk = bundle.psk.now; psk_id = bundle.psk_id.now }

-- what each mode brings to the key schedule
abbrev pub recipient_mode : {K PublicKey PrivateKey EncappedKey : Type 0} → OpModeR K PublicKey PrivateKey EncappedKey → Mode
recipient_mode Base = record { number = 0x00; psk = []; psk_id = [] }
recipient_mode (Psk bundle) = with_bundle 0x01 bundle
recipient_mode (Auth pk) = record { number = 0x02; psk = []; psk_id = [] }
recipient_mode (AuthPsk pk bundle) = with_bundle 0x03 bundle

-- the bytes of the sender's public key, in the modes that authenticate a sender
abbrev pub recipient_sender : {K PublicKey PrivateKey EncappedKey : Type 0} → (PublicKey → List ℕ) → OpModeR K PublicKey PrivateKey EncappedKey → Option (List ℕ)
recipient_sender bytes Base = None
recipient_sender bytes (Psk bundle) = None
recipient_sender bytes (Auth pk) = Some (bytes pk)
recipient_sender bytes (AuthPsk pk bundle) = Some (bytes pk)
