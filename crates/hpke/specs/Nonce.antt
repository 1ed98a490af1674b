-- The nonces of a context's messages (RFC 9180, section 5.2).
use Rattle.std.specs.Prelude.{ℕ, ◌-◌, ◌+◌, ◌^◌, List, ◌++◌, length, replicate, nat_lt, if◌then◌else◌, Option, Some, None}
use Rattle.std.specs.Int.{w64, to_be_bytes}
use Rattle.hpke.specs.Bytes.{xor_bytes}

-- I2OSP(seq, Nn): the number in the last 8 of this many bytes, the high one first, after zeros
abbrev pub padded_number : ℕ → ℕ → List ℕ
padded_number len number = replicate (len - 8) 0 ++ to_be_bytes w64 number

-- ComputeNonce(seq): the base nonce XOR the number
abbrev pub nonce_of : List ℕ → ℕ → List ℕ
nonce_of base_nonce number = xor_bytes base_nonce (padded_number (length base_nonce) number)

-- IncrementSeq: the number after this one, or none after the last, which is 2^64 - 1
abbrev pub number_after : ℕ → Option ℕ
number_after number = if nat_lt (number + 1) (2 ^ 64) then Some (number + 1) else None
