-- What is answered of a meaning.
use Rattle.std.specs.Prelude.{◌≡◌, ◌≢◌, ℕ, List, [], ◌∷◌, length, ◌⊎◌, Result, Ok, Err, MatchResult}
use Rattle.kem_mail.specs.Mail.{Verdict}
use Rattle.kem_mail.specs.declared.error.MailError.{MailError}
use Rattle.kem_mail.specs.declared.error.MailError.TheVariants.{NoMemory, NotOneKem}

-- what is answered is this verdict; want of memory is free
abbrev pub Judges : {X Y : Type 0} → (X → Y) → Result X MailError → Result Y MailError → Type 0
Judges view result verdict = MatchResult result (λ x. verdict ≡ Ok (view x)) (λ error. (error ≡ NoMemory) ⊎ (verdict ≡ Err error))

-- the same answer without its value
abbrev pub emptied : {X : Type 0} → Result X MailError → Verdict
emptied (Ok x) = Ok []
emptied (Err error) = Err error

-- the one encapsulated key, or how many there are where there isn't exactly one
abbrev pub IsKeyOf : {X : Type 0} → (X → List ℕ) → List (List ℕ) → Result X MailError → Type 0
IsKeyOf view keys result = MatchResult result (λ key. keys ≡ view key ∷ []) (λ error. (length keys ≢ 1) × (error ≡ NotOneKem (length keys)))
