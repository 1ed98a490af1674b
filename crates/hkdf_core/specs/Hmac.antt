-- HMAC (RFC 2104) as a function on lists of bytes, over any hash function on such lists and the
-- length of that hash function's blocks in bytes. Section numbers are the RFC's.
use Rattle.std.specs.Prelude.{ℕ, ◌-◌, List, ◌++◌, length, replicate, map, bit_xor, nat_lt, if◌then◌else◌}

-- the byte that ipad repeats (2)
abbrev pub inner_pad : ℕ
inner_pad = 0x36

-- the byte that opad repeats (2)
abbrev pub outer_pad : ℕ
outer_pad = 0x5C

-- the bytes with zeros appended up to n bytes (2, step 1)
abbrev pub zero_padded : ℕ → List ℕ → List ℕ
zero_padded n bytes = bytes ++ replicate (n - length bytes) 0

-- K, the key as one block: a key that is longer than a block is hashed first (2, 3)
abbrev pub key_block : (List ℕ → List ℕ) → ℕ → List ℕ → List ℕ
key_block hash block_size key =
    zero_padded block_size (if nat_lt block_size (length key) then hash key else key)

-- a block XOR the pad that repeats this byte (2, steps 2 and 5)
abbrev pub masked : ℕ → List ℕ → List ℕ
masked pad block = map (λ byte. bit_xor byte pad) block

-- HMAC of a text under a key: H(K XOR opad, H(K XOR ipad, text)) (2)
unfoldable pub hmac : (List ℕ → List ℕ) → ℕ → List ℕ → List ℕ → List ℕ
hmac hash block_size key text =
    let block = key_block hash block_size key in
    hash (masked outer_pad block ++ hash (masked inner_pad block ++ text))
