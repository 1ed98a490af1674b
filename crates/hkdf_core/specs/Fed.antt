-- What contracts see of the streaming types: the bytes that each has been fed. `holds` is the hash
-- function's own word for the message that a hasher has been fed.
use Rattle.std.specs.Prelude.{ℕ, List, ◌++◌}
use Rattle.hkdf_core.specs.Hmac.{masked, key_block, inner_pad, outer_pad}
use Rattle.hkdf_core.specs.declared.keyed_hash.Hmac.{Hmac}
use Rattle.hkdf_core.specs.declared.derivation.HkdfExtract.{HkdfExtract}

-- the HMAC was made with this key, and has been fed this text
abbrev pub HmacHolds : {T : Type 0} → (T → List ℕ → Type 0) → (List ℕ → List ℕ) → ℕ
    → Hmac T → List ℕ → List ℕ → Type 0
HmacHolds holds hash block_size mac key text =
    holds mac.inner (masked inner_pad (key_block hash block_size key) ++ text)
    × holds mac.outer (masked outer_pad (key_block hash block_size key))

-- the extraction was made with this salt, and has been fed this input keying material
abbrev pub ExtractHolds : {T : Type 0} → (T → List ℕ → Type 0) → (List ℕ → List ℕ) → ℕ
    → HkdfExtract T → List ℕ → List ℕ → Type 0
ExtractHolds holds hash block_size extraction salt ikm = HmacHolds holds hash block_size extraction.mac salt ikm
