-- The distinguished encoding rules, DER, of ASN.1 (ITU-T X.690): what keys are spelled by.
use Rattle.std.specs.Prelude.{ℕ, ◌+◌, ◌/◌, ◌%◌, List, [], ◌∷◌, ◌++◌, length, nat_lt, if◌then◌else◌}

-- the length octets of `n` contents octets, for `n` below 2 ^ 16: below 128 `n` itself, and else how many
-- bytes spell `n`, with bit 8 set, and those bytes, the high one first; as few as can be (8.1.3 and 10.1)
unfoldable pub length_octets : ℕ → List ℕ
length_octets n = if nat_lt n 128 then n ∷ [] else (if nat_lt n 256 then 0x81 ∷ n ∷ [] else 0x82 ∷ (n / 256) ∷ (n % 256) ∷ [])

-- what stands before `n` contents octets: the identifier octet and the length octets (8.1.1)
abbrev pub opening : ℕ → ℕ → List ℕ
opening identifier n = identifier ∷ length_octets n

-- the encoding of a value: identifier octet, length octets and contents octets (8.1.1)
unfoldable pub encoding : ℕ → List ℕ → List ℕ
encoding identifier contents = opening identifier (length contents) ++ contents

-- identifier octets (8.1.2): INTEGER, BIT STRING, OCTET STRING, OBJECT IDENTIFIER and SEQUENCE have the
-- universal tags 2, 3, 4, 6 and 16, and a sequence is constructed (8.9.1)
abbrev pub integer : ℕ
integer = 0x02

abbrev pub bit_string : ℕ
bit_string = 0x03

abbrev pub octet_string : ℕ
octet_string = 0x04

abbrev pub object_identifier : ℕ
object_identifier = 0x06

abbrev pub sequence : ℕ
sequence = 0x30

-- the context-specific tag 0 in the place of the one of an octet string (8.14)
abbrev pub implicit_0 : ℕ
implicit_0 = 0x80

-- a subidentifier below 2 ^ 14: seven bits a byte, the high ones first, and bit 8 is set in each byte but
-- the last (8.19.2)
abbrev pub subidentifier : ℕ → List ℕ
subidentifier n = if nat_lt n 128 then n ∷ [] else (128 + n / 128) ∷ (n % 128) ∷ []
