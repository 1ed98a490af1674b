-- AES-GCM with a nonce of 12 bytes (SP 800-38D) as functions on lists of bytes, in the standard's
-- names, with its section numbers. `ciph` is the block cipher under the key. A length in bits is 8
-- times a length in bytes.
use Rattle.std.specs.Prelude.{ℕ, zero, suc, ◌+◌, ◌-◌, ◌*◌, ◌%◌, ◌^◌, List, [], ◌∷◌, ◌++◌, length, take, drop, replicate, Bool, nat_le, ◌&&◌, if◌then◌else◌, Option, Some, None}
use Rattle.std.specs.Int.{w32, w64, from_be_bytes, to_be_bytes, div_ceil}
use Rattle.std.specs.Str.{bytes_eq}
use Rattle.gcm_core.specs.Aes.{aes, xor_bytes}
use Rattle.gcm_core.specs.Ghash.{ghash}

-- inc 32: the last four bytes, as a number, count on modulo 2^32 (6.2)
unfoldable pub inc32 : List ℕ → List ℕ
inc32 block = take 12 block ++ to_be_bytes w32 ((from_be_bytes w32 (drop 12 block) + 1) % 2 ^ 32)

-- GCTR over n blocks of x from the counter block cb on; the last block may be short (6.5)
unfoldable pub gctr_blocks : (List ℕ → List ℕ) → ℕ → List ℕ → List ℕ → List ℕ
gctr_blocks ciph zero cb x = []
gctr_blocks ciph (suc n) cb x = xor_bytes (take 16 x) (ciph cb) ++ gctr_blocks ciph n (inc32 cb) (drop 16 x)

-- GCTR from the initial counter block (6.5)
unfoldable pub gctr : (List ℕ → List ℕ) → List ℕ → List ℕ → List ℕ
gctr ciph icb x = gctr_blocks ciph (div_ceil (length x) 16) icb x

-- x and the zeros up to the end of its last block
unfoldable pub padded : List ℕ → List ℕ
padded x = x ++ replicate ((16 - length x % 16) % 16) 0

-- J 0 of a nonce of 12 bytes (7.1, step 2)
abbrev pub j0 : List ℕ → List ℕ
j0 nonce = nonce ++ 0 ∷ 0 ∷ 0 ∷ 1 ∷ []

-- the blocks that the tag authenticates: both texts padded, and their lengths in bits (7.1, steps 4 and 5)
unfoldable pub authenticated : List ℕ → List ℕ → List ℕ
authenticated aad c = padded aad ++ padded c ++ to_be_bytes w64 (8 * length aad) ++ to_be_bytes w64 (8 * length c)

-- the tag of a ciphertext, 16 bytes (7.1, steps 1, 5 and 6)
unfoldable pub tag_of : (List ℕ → List ℕ) → List ℕ → List ℕ → List ℕ → List ℕ
tag_of ciph nonce aad c = gctr ciph (j0 nonce) (ghash (ciph (replicate 16 0)) (authenticated aad c))

-- the text has at most 2^36 - 32 bytes (5.2.1.1); associated data has at most 2^60, where the
-- standard allows 2^61 - 1
abbrev pub fits_limits : List ℕ → List ℕ → Bool
fits_limits aad text = nat_le (length text) (2 ^ 36 - 32) && nat_le (length aad) (2 ^ 60)

-- GCM-AE: the ciphertext and then its tag, or none past the limits (7.1)
unfoldable pub gcm_ae : (List ℕ → List ℕ) → List ℕ → List ℕ → List ℕ → Option (List ℕ)
gcm_ae ciph nonce aad text =
    let c = gctr ciph (inc32 (j0 nonce)) text in
    if fits_limits aad text then Some (c ++ tag_of ciph nonce aad c) else None

-- what stands before the tag of a sealed text
abbrev pub ciphertext_of : List ℕ → List ℕ
ciphertext_of sealed = take (length sealed - 16) sealed

-- the tag of a sealed text
abbrev pub sealed_tag : List ℕ → List ℕ
sealed_tag sealed = drop (length sealed - 16) sealed

-- a sealed text has a tag, keeps the limits, and its tag is that of its ciphertext
abbrev pub is_authentic : (List ℕ → List ℕ) → List ℕ → List ℕ → List ℕ → Bool
is_authentic ciph nonce aad sealed =
    nat_le 16 (length sealed) && fits_limits aad (ciphertext_of sealed)
    && bytes_eq (sealed_tag sealed) (tag_of ciph nonce aad (ciphertext_of sealed))

-- GCM-AD: the text, or none where the sealed text is not authentic (7.2)
unfoldable pub gcm_ad : (List ℕ → List ℕ) → List ℕ → List ℕ → List ℕ → Option (List ℕ)
gcm_ad ciph nonce aad sealed =
    if is_authentic ciph nonce aad sealed then Some (gctr ciph (inc32 (j0 nonce)) (ciphertext_of sealed)) else None

-- what a text is sealed to under a key, nonce and associated data
abbrev pub seal_of : List ℕ → List ℕ → List ℕ → List ℕ → Option (List ℕ)
seal_of key nonce aad text = gcm_ae (aes key) nonce aad text

-- what a sealed text opens to under a key, nonce and associated data
abbrev pub open_of : List ℕ → List ℕ → List ℕ → List ℕ → Option (List ℕ)
open_of key nonce aad sealed = gcm_ad (aes key) nonce aad sealed
