-- The commands, the words that spell them, and the algorithms that the words name.
use Rattle.std.specs.Prelude.{◌≡◌, ℕ, ◌≤◌, List, [], ◌∷◌, codes, decimal}
use Rattle.gcm_core.specs.Gcm.{open_of, seal_of}
use Rattle.sha2.specs.Sha256.{sha256}
use Rattle.sha2.specs.Sha512.{sha384, sha512}
use Rattle.ml_kem.specs.Parameters.{Parameters, ml_kem_512, ml_kem_768, ml_kem_1024}
use Rattle.hpke.specs.Schedule.{KdfAlgorithm, AeadAlgorithm}
use Rattle.kem_mail.specs.Mail.{OpenMeaning}
use Rattle.kem_mail.specs.Sealing.{SealMeaning}
use Rattle.mail_commands.specs.declared.command.Command.{Command}
use Rattle.mail_commands.specs.declared.command.Command.TheVariants.{Open, Key, Seal, Gen}
use Rattle.mail_commands.specs.declared.command.SetName.{SetName}
use Rattle.mail_commands.specs.declared.command.SetName.TheVariants.{Set512, Set768, Set1024}
use Rattle.mail_commands.specs.declared.command.KdfName.{KdfName}
use Rattle.mail_commands.specs.declared.command.KdfName.TheVariants.{Sha256, Sha384, Sha512}
use Rattle.mail_commands.specs.declared.command.AeadName.{AeadName}
use Rattle.mail_commands.specs.declared.command.AeadName.TheVariants.{Aes128, Aes256}

-- the word of a parameter set, and the set
abbrev pub set_word : SetName → List ℕ
set_word Set512 = codes "512"
set_word Set768 = codes "768"
set_word Set1024 = codes "1024"

abbrev pub parameters : SetName → Parameters
parameters Set512 = ml_kem_512
parameters Set768 = ml_kem_768
parameters Set1024 = ml_kem_1024

-- the word of a KDF, and what it brings: HKDF over this hash function (RFC 9180, section 7.2)
abbrev pub kdf_word : KdfName → List ℕ
kdf_word Sha256 = codes "sha256"
kdf_word Sha384 = codes "sha384"
kdf_word Sha512 = codes "sha512"

abbrev pub kdf_algorithm : KdfName → KdfAlgorithm
kdf_algorithm Sha256 = record { hash = sha256; block_size = 64; digest_size = 32; kdf_id = 1 }
kdf_algorithm Sha384 = record { hash = sha384; block_size = 128; digest_size = 48; kdf_id = 2 }
kdf_algorithm Sha512 = record { hash = sha512; block_size = 128; digest_size = 64; kdf_id = 3 }

-- the word of an AEAD, and what it brings: AES-GCM with keys of this size (RFC 9180, section 7.3)
abbrev pub aead_word : AeadName → List ℕ
aead_word Aes128 = codes "aes128"
aead_word Aes256 = codes "aes256"

abbrev pub aead_algorithm : AeadName → AeadAlgorithm
aead_algorithm Aes128 = record { key_size = 16; nonce_size = 12; aead_id = 1 }
aead_algorithm Aes256 = record { key_size = 32; nonce_size = 12; aead_id = 2 }

-- what an AEAD opens a sealed text to: GCM under AES with keys of 16 or of 32 bytes (NIST SP 800-38D,
-- section 7.2)
abbrev pub aead_open : AeadName → OpenMeaning
aead_open Aes128 = open_of
aead_open Aes256 = open_of

-- what an AEAD seals a text to, by the same (section 7.1)
abbrev pub aead_seal : AeadName → SealMeaning
aead_seal Aes128 = seal_of
aead_seal Aes256 = seal_of

-- the words of a command; a budget and a number of messages are decimal numbers without a leading zero
abbrev pub words_of : Command → List (List ℕ)
words_of (Open suite budget) =
    codes "open" ∷ set_word suite.set ∷ kdf_word suite.kdf ∷ aead_word suite.aead ∷ decimal budget ∷ []
words_of (Key set) = codes "key" ∷ set_word set ∷ []
words_of (Seal suite) = codes "seal" ∷ set_word suite.set ∷ kdf_word suite.kdf ∷ aead_word suite.aead ∷ []
words_of (Gen count) = codes "gen" ∷ decimal count ∷ []

-- the most bytes of a mail that a command may ask to be read
abbrev pub greatest_budget : ℕ
greatest_budget = 16777216

-- the most messages that a command may ask to be made
abbrev pub greatest_count : ℕ
greatest_count = 2000

-- a command of the program: a budget is from 1 to 16777216, and a number of messages from 0 to 2000
abbrev pub IsCommand : Command → Type 0
IsCommand (Open suite budget) = (1 ≤ budget) × (budget ≤ greatest_budget)
IsCommand (Key set) = Unit {0}
IsCommand (Seal suite) = Unit {0}
IsCommand (Gen count) = count ≤ greatest_count

-- the word of a command's input, in the lines of its faults
abbrev pub input_word : Command → List ℕ
input_word (Seal suite) = codes "input"
input_word command = codes "head"

-- the words spell this command
pub record Spells (words : List (List ℕ)) (command : Command) : Type 0 where
  pub words_are : words ≡ words_of command
  pub is_command : IsCommand command
