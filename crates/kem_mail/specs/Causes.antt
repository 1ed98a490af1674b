-- Which error of a mail comes of a refused key.
use Rattle.ml_kem.specs.declared.error.KemError.{KemError}
use Rattle.ml_kem.specs.declared.error.KemError.TheVariants.{NoMemory as KemNoMemory, XofExhausted as KemXofExhausted}
use Rattle.kem_mail.specs.declared.error.MailError.{MailError}
use Rattle.kem_mail.specs.declared.error.MailError.TheVariants.{NoMemory, XofExhausted}

-- of a key that was refused
abbrev pub of_kem : KemError → MailError
of_kem KemNoMemory = NoMemory
of_kem KemXofExhausted = XofExhausted
