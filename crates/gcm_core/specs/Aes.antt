-- AES (FIPS 197) as functions on lists of bytes, in the standard's names, with its section numbers.
-- A block and a state are 16 bytes. A key is 4·Nk bytes, for Nk = 4, 6 or 8. A key schedule is the
-- list of its words' bytes: word i is the bytes 4·i to 4·i + 3.
use Rattle.std.specs.Prelude.{ℕ, zero, suc, ◌+◌, ◌-◌, ◌*◌, ◌/◌, ◌%◌, ◌^◌, List, [], ◌∷◌, ◌++◌, length, map, sum_by, bit_xor, slice_index, nat_lt, ◌==◌, ◌&&◌, if◌then◌else◌, find, unwrap_or}
use Rattle.std.specs.List.{range_with_len}
use Rattle.std.specs.Int.{bit_at}
use Rattle.gcm_core.specs.FieldMul.{product_of, times_x}

-- x^8 modulo x^8 + x^4 + x^3 + x + 1
abbrev pub reduction_byte : ℕ
reduction_byte = 0x1b

-- a·b in GF(2^8) (4.2)
unfoldable pub byte_product : ℕ → ℕ → ℕ
byte_product a b = product_of 8 reduction_byte 8 a b

-- the byte c with b·c = 1, and 0 for 0, which has none (4.4)
unfoldable pub inverse : ℕ → ℕ
inverse b = unwrap_or (find (λ c. byte_product b c == 1) (range_with_len 0 256)) 0

-- bit i of the affine map at b (5.1.1)
abbrev pub affine_bit : ℕ → ℕ → ℕ
affine_bit b i = (bit_at b i + bit_at b ((i + 4) % 8) + bit_at b ((i + 5) % 8)
    + bit_at b ((i + 6) % 8) + bit_at b ((i + 7) % 8) + bit_at 0x63 i) % 2

-- S-box: the affine map at the inverse (5.1.1)
unfoldable pub s_box : ℕ → ℕ
s_box b = sum_by (λ i. affine_bit (inverse b) i * 2 ^ i) (range_with_len 0 8)

-- s[r, c], with row and column taken modulo 4: byte 4·c + r of the block (3.4)
abbrev pub state_byte : List ℕ → ℕ → ℕ → ℕ
state_byte s r c = slice_index s (4 * (c % 4) + r % 4)

-- the state with f r c in row r and column c
abbrev pub state_of : (ℕ → ℕ → ℕ) → List ℕ
state_of f = map (λ k. f (k % 4) (k / 4)) (range_with_len 0 16)

-- SubBytes (5.1.1)
unfoldable pub sub_bytes : List ℕ → List ℕ
sub_bytes s = state_of (λ r c. s_box (state_byte s r c))

-- ShiftRows: row r turns left by r places (5.1.2)
unfoldable pub shift_rows : List ℕ → List ℕ
shift_rows s = state_of (λ r c. state_byte s r (c + r))

-- MixColumns: each column times the circulant matrix with first row 02 03 01 01 (5.1.3)
unfoldable pub mix_columns : List ℕ → List ℕ
mix_columns s = state_of (λ r c. bit_xor (bit_xor (bit_xor (byte_product 2 (state_byte s r c))
    (byte_product 3 (state_byte s (r + 1) c))) (state_byte s (r + 2) c)) (state_byte s (r + 3) c))

-- AddRoundKey, with the words 4·round to 4·round + 3 of the key schedule w (5.1.4)
unfoldable pub add_round_key : List ℕ → ℕ → List ℕ → List ℕ
add_round_key w round s = state_of (λ r c. bit_xor (state_byte s r c) (slice_index w (16 * round + (4 * c + r))))

-- the state after n rounds of SubBytes, ShiftRows, MixColumns and AddRoundKey, which follow one
-- AddRoundKey (5.1)
unfoldable pub state_after : List ℕ → List ℕ → ℕ → List ℕ
state_after w block zero = add_round_key w 0 block
state_after w block (suc n) =
    add_round_key w (suc n) (mix_columns (shift_rows (sub_bytes (state_after w block n))))

-- Nr, the number of rounds: the key schedule has 4·(Nr + 1) words
abbrev pub round_count : List ℕ → ℕ
round_count w = length w / 16 - 1

-- Cipher of a block with the key schedule w: the last of the Nr rounds has no MixColumns (5.1)
unfoldable pub cipher : List ℕ → List ℕ → List ℕ
cipher w block =
    add_round_key w (round_count w) (shift_rows (sub_bytes (state_after w block (round_count w - 1))))

-- the bytes of two lists, added place by place, up to the end of the shorter list
abbrev pub xor_bytes : List ℕ → List ℕ → List ℕ
xor_bytes [] ys = []
xor_bytes (x ∷ xs) [] = []
xor_bytes (x ∷ xs) (y ∷ ys) = bit_xor x y ∷ xor_bytes xs ys

-- word i of a key schedule
abbrev pub word_at : List ℕ → ℕ → List ℕ
word_at w i = slice_index w (4 * i) ∷ slice_index w (4 * i + 1)
    ∷ slice_index w (4 * i + 2) ∷ slice_index w (4 * i + 3) ∷ []

-- RotWord (5.2)
abbrev pub rot_word : List ℕ → List ℕ
rot_word [] = []
rot_word (a ∷ word) = word ++ a ∷ []

-- SubWord (5.2)
abbrev pub sub_word : List ℕ → List ℕ
sub_word word = map s_box word

-- x^n in GF(2^8)
unfoldable pub power_of_x : ℕ → ℕ
power_of_x zero = 1
power_of_x (suc n) = times_x 8 reduction_byte (power_of_x n)

-- Rcon[j], for j from 1 on (5.2)
abbrev pub rcon : ℕ → List ℕ
rcon j = power_of_x (j - 1) ∷ 0 ∷ 0 ∷ 0 ∷ []

-- temp of word i, from the word before it: what is added to word i - Nk (5.2)
abbrev pub schedule_term : ℕ → ℕ → List ℕ → List ℕ
schedule_term nk i previous =
    if i % nk == 0 then xor_bytes (sub_word (rot_word previous)) (rcon (i / nk))
    else if nat_lt 6 nk && (i % nk == 4) then sub_word previous
    else previous

-- the first Nk + n words of the key schedule: the key, and words that each follow from those before
unfoldable pub schedule : ℕ → List ℕ → ℕ → List ℕ
schedule nk key zero = key
schedule nk key (suc n) =
    let w = schedule nk key n in
    w ++ xor_bytes (word_at w n) (schedule_term nk (nk + n) (word_at w (nk + n - 1)))

-- KeyExpansion: 4·(Nr + 1) words, where Nr is Nk + 6 (5.2)
unfoldable pub key_expansion : List ℕ → List ℕ
key_expansion key = schedule (length key / 4) key (3 * (length key / 4) + 28)

-- the block cipher under a key: AES-256 for 32 bytes, AES-128 for 16
unfoldable pub aes : List ℕ → List ℕ → List ℕ
aes key block = cipher (key_expansion key) block
