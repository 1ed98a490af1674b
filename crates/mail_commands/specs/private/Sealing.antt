-- The mail that `seal` writes, by the names of a suite.
use Rattle.std.specs.Prelude.{◌≡◌, ◌≢◌, ℕ, List, [], ◌++◌, ◌⊎◌, Option, None, Result, Ok, Err}
use Rattle.kem_hash.specs.Family.{Family}
use Rattle.ml_kem.specs.Keys.{IsEncapsulationKey, rho_part}
use Rattle.ml_kem.specs.Matrix.{matrix}
use Rattle.ml_kem.specs.Parameters.{Parameters}
use Rattle.hpke.specs.Schedule.{KdfAlgorithm, AeadAlgorithm}
use Rattle.age_format.specs.Outside.{Wrote, WrotePart}
use Rattle.kem_mail.specs.Sealing.{SealMeaning, lattice_sealer}
use Rattle.kem_mail.specs.Sent.{AreStanzas, mail_text}
use Rattle.generated_mail.specs.Made.{source_stream}
use Rattle.kem_mail.specs.declared.error.MailError.TheVariants.{XofExhausted as MailExhausted}
use Rattle.kem_mail.specs.declared.error.SealMailError.{SealMailError}
use Rattle.kem_mail.specs.declared.error.SealMailError.TheVariants.{NoMemory, XofExhausted, SealError, WriteFault}
use Rattle.mail_commands.specs.Lines.{error_line}
use Rattle.mail_commands.specs.Run.{IsTold}
use Rattle.mail_commands.specs.declared.error.RunError.TheVariants.{InvalidKey as RunInvalidKey, Mail as RunMail}
use Rattle.mail_commands.specs.declared.sealing.SealFault.{SealFault}
use Rattle.mail_commands.specs.declared.sealing.SealFault.TheVariants.{InvalidKey, Mail}

module _ (set : Parameters) (family : Family) (kdf : KdfAlgorithm) (aead : AeadAlgorithm) (meaning : SealMeaning) (key info source : List ℕ) (messages : List (List ℕ)) where
  -- the text of the mail
  unfoldable pub sealed_text : List ℕ
  sealed_text = mail_text (lattice_sealer set family kdf aead meaning key info) messages (source_stream source)

  -- the matrix of the key is there
  abbrev pub HasMatrix : Type 0
  HasMatrix = matrix family set.k (rho_part set key) ≢ None

  module _ {W : Type 0} (got : W → Option (List ℕ)) (faults : W → ℕ) (plan : W → List ℕ) (before now : W) where
    -- a front of the text was written, which is whole stanzas
    pub record FrontRan : Type 0 where
      pub part : List ℕ
      pub rest : List ℕ
      pub whole : sealed_text ≡ part ++ rest
      pub are : AreStanzas part
      pub wrote : Wrote got faults plan before now part

    -- how sealing to a key ended
    abbrev pub MailRan : {X : Type 0} → Result X SealMailError → Type 0
    MailRan (Ok x) = HasMatrix × Wrote got faults plan before now sealed_text
    MailRan (Err XofExhausted) = (matrix family set.k (rho_part set key) ≡ None) × Wrote got faults plan before now []
    MailRan (Err NoMemory) = Wrote got faults plan before now [] ⊎ (HasMatrix × FrontRan)
    MailRan (Err WriteFault) = HasMatrix × WrotePart got faults plan before now sealed_text
    MailRan (Err (SealError number)) = ⊥

    -- how sealing to the bytes of a key ended
    abbrev pub SealRan : {X : Type 0} → Result X SealFault → Type 0
    SealRan (Ok x) = IsEncapsulationKey set key × MailRan (Ok x)
    SealRan (Err InvalidKey) = (IsEncapsulationKey set key → ⊥) × Wrote got faults plan before now []
    SealRan (Err (Mail NoMemory)) = Wrote got faults plan before now [] ⊎ (IsEncapsulationKey set key × HasMatrix × FrontRan)
    SealRan (Err (Mail error)) = IsEncapsulationKey set key × MailRan {X = Unit {0}} (Err error)

-- what was answered and told behind sealing
abbrev pub IsSealTold : {W X : Type 0} → (W → Option (List ℕ)) → (W → ℕ) → (W → List ℕ) → W → W → ℕ → Result X SealFault → Type 0
IsSealTold got faults plan before now result (Ok x) = (result ≡ 0) × (now ≡ before)
IsSealTold got faults plan before now result (Err InvalidKey) = IsTold got faults plan before now result 3 (error_line [] RunInvalidKey)
IsSealTold got faults plan before now result (Err (Mail XofExhausted)) = IsTold got faults plan before now result 3 (error_line [] (RunMail MailExhausted))
IsSealTold got faults plan before now result (Err (Mail NoMemory)) = (result ≡ 6) × (now ≡ before)
IsSealTold got faults plan before now result (Err (Mail WriteFault)) = (result ≡ 5) × (now ≡ before)
IsSealTold got faults plan before now result (Err (Mail (SealError number))) = ⊥
