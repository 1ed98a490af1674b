-- What is told of a mail that was made of a number of messages: what it opens to, summed up.
use Rattle.std.specs.Prelude.{◌≡◌, ℕ, List, [], ◌∷◌, ◌++◌, Some, None, Ok, Err, length, sum_by, codes, decimal}
use Rattle.hex.specs.Hex.{encode_lower}
use Rattle.gcm_core.specs.Gcm.{open_of}
use Rattle.kem_hash.specs.Family.{Family}
use Rattle.ml_kem.specs.Keys.{Key, key_of}
use Rattle.ml_kem.specs.Parameters.{ml_kem_768}
use Rattle.kem_mail.specs.Mail.{Verdict, OpensByKey}
use Rattle.kem_mail.specs.declared.error.MailError.TheVariants.{XofExhausted}
use Rattle.generated_mail.specs.Made.{hkdf_sha256, aes_256_gcm, generated_key_seed, generated_text}

-- the most bytes of the mail that are read
abbrev pub generated_budget : ℕ
generated_budget = 16777216

-- a line of a name and a value
abbrev pub value_line : List ℕ → List ℕ → List ℕ
value_line name value = name ++ (32 ∷ value ++ 10 ∷ [])

-- the four lines: how many messages were opened, the sum of their lengths and the length of the mail's text, in
-- decimal, and the text's hash in lower-case hexadecimal digits
abbrev pub summary_lines : ℕ → ℕ → ℕ → List ℕ → List ℕ
summary_lines count total mail digest =
    value_line (codes "messages") (decimal count) ++ (value_line (codes "bytes") (decimal total)
    ++ (value_line (codes "mail") (decimal mail) ++ value_line (codes "digest") (encode_lower digest)))

-- what is told of a text that opened to this: the four lines, with H of the text, or why it didn't open
abbrev pub summed : Family → List ℕ → Verdict → Verdict
summed family text (Ok messages) = Ok (summary_lines (length messages) (sum_by length messages) (length text) (family.h_of text) ∷ [])
summed family text (Err error) = Err error

-- the text opens to this by the seed of the key, with empty info
abbrev pub GeneratedOpens : Family → ℕ → List ℕ → Verdict → Type 0
GeneratedOpens family count text opened = OpensByKey ml_kem_768 family hkdf_sha256 aes_256_gcm open_of (generated_key_seed count) [] text generated_budget opened

-- This is told for a number of messages: where the drawn seed gives a key, what the mail to it opens to, summed up.
pub record Generates (family : Family) (count : ℕ) (told : Verdict) : Type 0 where
  pub without_key : key_of ml_kem_768 family (generated_key_seed count) ≡ None → told ≡ Err XofExhausted
  pub with_key : (key : Key) → key_of ml_kem_768 family (generated_key_seed count) ≡ Some key
      → (opened : Verdict) × GeneratedOpens family count (generated_text family count key.ek) opened × (told ≡ summed family (generated_text family count key.ek) opened)
