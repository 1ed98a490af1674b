-- The sponge over Keccak-f[1600] (FIPS 202, sections 4 and 5) on bytes. A message is whole bytes, and so
-- is the rate: a length in bits is 8 times a length in bytes. Section numbers are the standard's.
use Rattle.std.specs.Prelude.{ℕ, zero, suc, ◌+◌, ◌-◌, ◌*◌, ◌/◌, ◌%◌, List, [], ◌∷◌, ◌++◌, length, take, drop, map, replicate, bit_xor, slice_index}
use Rattle.std.specs.List.{flat_map, range_with_len}
use Rattle.std.specs.Int.{w64, div_ceil, from_le_bytes, to_le_bytes}
use Rattle.sha3.specs.Keccak.{keccak_f}

-- lane k of a block of bytes, the first byte lowest, and 0 behind its end (3.1.2)
abbrev pub lane_of : List ℕ → ℕ → ℕ
lane_of block k = from_le_bytes w64 (take 8 (drop (8 * k) block))

-- the state XOR a block that zeros follow (4, algorithm 8, step 6)
unfoldable pub added : List ℕ → List ℕ → List ℕ
added a block = map (λ k. bit_xor (slice_index a k) (lane_of block k)) (range_with_len 0 25)

-- the bytes of a state (3.1.3)
unfoldable pub state_bytes : List ℕ → List ℕ
state_bytes a = flat_map (to_le_bytes w64) a

-- the state after the first n blocks of p (4, algorithm 8, steps 5 and 6)
unfoldable pub absorbed : ℕ → List ℕ → ℕ → List ℕ
absorbed rate p zero = replicate 25 0
absorbed rate p (suc n) = keccak_f (added (absorbed rate p n) (take rate (drop (n * rate) p)))

-- the first n blocks that are squeezed from a state (4, algorithm 8, steps 7 to 10)
unfoldable pub squeezed : ℕ → List ℕ → ℕ → List ℕ
squeezed rate a zero = []
squeezed rate a (suc n) = take rate (state_bytes a) ++ squeezed rate (keccak_f a) n

-- the first d bytes that are squeezed from a state (4, algorithm 8, steps 7 to 10)
unfoldable pub output : ℕ → List ℕ → ℕ → List ℕ
output rate a d = take d (squeezed rate a (div_ceil d rate))

-- pad10*1(x, m), as bits (5.1, algorithm 9)
abbrev pub pad10star1 : ℕ → ℕ → List ℕ
pad10star1 x m = 1 ∷ replicate ((x - (m + 2) % x) % x) 0 ++ 1 ∷ []

-- bits as bytes, eight to a byte, the first one lowest (B.1)
abbrev pub packed : List ℕ → List ℕ
packed (b0 ∷ b1 ∷ b2 ∷ b3 ∷ b4 ∷ b5 ∷ b6 ∷ b7 ∷ bits) =
    (b0 + 2 * b1 + 4 * b2 + 8 * b3 + 16 * b4 + 32 * b5 + 64 * b6 + 128 * b7) ∷ packed bits
packed bits = []

-- a message, the bits that follow it, and their padding (4, algorithm 8, step 1)
unfoldable pub padded : ℕ → List ℕ → List ℕ → List ℕ
padded rate suffix message =
    message ++ packed (suffix ++ pad10star1 (8 * rate) (8 * length message + length suffix))

-- the state that has absorbed a message and the bits that follow it
unfoldable pub absorbed_whole : ℕ → List ℕ → List ℕ → List ℕ
absorbed_whole rate suffix message =
    let p = padded rate suffix message in absorbed rate p (length p / rate)

-- KECCAK[c](N, d), for a capacity of c bits, a message with the bits that follow it as N, and d in bytes (5.2)
abbrev pub keccak : ℕ → List ℕ → List ℕ → ℕ → List ℕ
keccak c suffix message d = let rate = (1600 - c) / 8 in output rate (absorbed_whole rate suffix message) d
