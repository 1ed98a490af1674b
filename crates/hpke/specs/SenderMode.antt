-- How a sender sets up a context (RFC 9180, section 5, table 1).
use Rattle.std.specs.Prelude.{ℕ, List, [], Option, Some, None}
use Rattle.hpke.specs.Schedule.{Mode}
use Rattle.hpke.specs.RecipientMode.{with_bundle}
use Rattle.hpke.specs.declared.mode.OpModeS.{OpModeS}
use Rattle.hpke.specs.declared.mode.OpModeS.TheVariants.{Base, Psk, Auth, AuthPsk}

-- what each mode brings to the key schedule
abbrev pub sender_mode : {K PublicKey PrivateKey EncappedKey : Type 0} → OpModeS K PublicKey PrivateKey EncappedKey → Mode
sender_mode Base = record { number = 0x00; psk = []; psk_id = [] }
sender_mode (Psk bundle) = with_bundle 0x01 bundle
sender_mode (Auth sk pk) = record { number = 0x02; psk = []; psk_id = [] }
sender_mode (AuthPsk sk pk bundle) = with_bundle 0x03 bundle

-- the bytes of the sender's private and public key, in the modes that authenticate a sender
abbrev pub sender_identity : {K PublicKey PrivateKey EncappedKey : Type 0} → (PrivateKey → List ℕ) → (PublicKey → List ℕ) → OpModeS K PublicKey PrivateKey EncappedKey → Option (List ℕ × List ℕ)
sender_identity sk_bytes pk_bytes Base = None
sender_identity sk_bytes pk_bytes (Psk bundle) = None
sender_identity sk_bytes pk_bytes (Auth sk pk) = Some (sk_bytes sk, pk_bytes pk)
sender_identity sk_bytes pk_bytes (AuthPsk sk pk bundle) = Some (sk_bytes sk, pk_bytes pk)
