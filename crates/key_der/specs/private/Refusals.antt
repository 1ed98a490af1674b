-- What a refusal of a call of `ml_kem` is here.
use Rattle.ml_kem.specs.declared.error.KemError.{KemError}
use Rattle.ml_kem.specs.declared.error.KemError.TheVariants as kem
use Rattle.ml_kem.specs.declared.error.KeyError.{KeyError}
use Rattle.ml_kem.specs.declared.error.KeyError.TheVariants as key
use Rattle.key_der.specs.declared.error.DerError.{DerError}
use Rattle.key_der.specs.declared.error.DerError.TheVariants.{InvalidKey, NoMemory, XofExhausted}

-- of making a key of a seed
abbrev pub of_kem : KemError → DerError
of_kem kem.NoMemory = NoMemory
of_kem kem.XofExhausted = XofExhausted

-- of reading an encapsulation key
abbrev pub of_key : KeyError → DerError
of_key key.NoMemory = NoMemory
of_key key.InvalidKey = InvalidKey
