-- The mail behind a head.
use Rattle.std.specs.Prelude.{◌≡◌, ℕ, List, [], ◌⊎◌, Option, None, Some, IfSome, Err}
use Rattle.kem_hash.specs.Family.{Family}
use Rattle.ml_kem.specs.Parameters.{Parameters}
use Rattle.ml_kem.specs.Keys.{key_of}
use Rattle.hpke.specs.Schedule.{KdfAlgorithm, AeadAlgorithm}
use Rattle.age_format.specs.Outside.{Rose}
use Rattle.kem_mail.specs.Mail.{Verdict, OpenMeaning, IsVerdict, OpensByKey}
use Rattle.kem_mail.specs.Taken.{Lost, IsTaken}
use Rattle.kem_mail.specs.declared.error.MailError.TheVariants.{NoMemory, XofExhausted, ReadFault, UnexpectedEof}

-- what opening the mail behind a head gave, and did to the source
pub record IsOpened (set : Parameters) (family : Family) (kdf : KdfAlgorithm) (aead : AeadAlgorithm) (open_of : OpenMeaning) (seed info : List ℕ) (budget : ℕ) (left left_now : Option (List ℕ)) (faults faults_now : ℕ) (result : Verdict) : Type 0 where
  pub verdict : IfSome left (λ text. IsVerdict result → OpensByKey set family kdf aead open_of seed info text budget result)
  pub no_key : key_of set family seed ≡ None → (left_now ≡ left) × ((result ≡ Err XofExhausted) ⊎ (result ≡ Err NoMemory))
  pub taken : Lost left left_now (IsTaken budget result)
  pub at_end : result ≡ Err UnexpectedEof → IfSome left (λ text. left_now ≡ Some [])
  pub read_fault : result ≡ Err ReadFault → Rose faults faults_now
  pub no_fault : (result ≡ Err ReadFault → ⊥) → faults_now ≡ faults
