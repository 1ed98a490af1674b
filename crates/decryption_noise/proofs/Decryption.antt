-- What is decrypted, bit by bit and as a whole.
use Rattle.std.proofs.Common.{◌≡◌, ℕ, ◌+◌, ◌*◌, ◌<◌, List, length, get_or, map, sym, ap, ◌∙◌, arith}
use Rattle.std.specs.Prelude.{◌↔◌, pos, slice_index_or}
use Rattle.std.specs.Int.{bit_at}
use Rattle.std.proofs.lemmas.List.{ext_get_or, get_or-map, length-map}
use Rattle.std.proofs.lemmas.Nat.Bits.{bit_at-lt}
use Rattle.std.proofs.lemmas.Simd.{get_or-zip2}
use Rattle.kem_hash.specs.Family.{AreBytes, Family}
use Rattle.module_lattice.specs.Bits.{byte_bit}
use Rattle.module_lattice.specs.Groups.{groups, ungroup}
use Rattle.module_lattice.specs.Ring.{IsPolynomial, plus, sum}
use Rattle.module_lattice.proofs.BitLaws.{bit_at-ungroup, byte_bit-groups}
use Rattle.module_lattice.proofs.Regrouping.{All-regroup, regroup-regroup}
use Rattle.ml_kem.specs.Encryption.{compressed, decompressed, decrypt}
use Rattle.ml_kem.specs.Keys.{Key}
use Rattle.ml_kem.specs.Parameters.{Parameters}
use Rattle.ml_kem.specs.Rounding.{compress, decompress}
use Rattle.decryption_noise.specs.Noise.{AllInside, IsInside, centred, noise_modulo, noise_of}
use Rattle.decryption_noise.proofs.Identity.{IsPolynomial-noise_modulo, Widths, cipher, length-bits, length-message, noise-beside}
use Rattle.decryption_noise.proofs.Intervals.{interval}
use Rattle.decryption_noise.proofs.Keys.{KeyIs}
use Rattle.decryption_noise.proofs.Vectors.{IsPolynomial-sum}

-- ---- bits

single-bit : (b : ℕ) → b < 2 → bit_at b 0 ≡ b
single-bit b low = omega arith

compress-bit : (x : ℕ) → compress 1 x < 2
compress-bit x = omega arith

-- a bit of a polynomial that is packed bit by bit
bit-compressed : (f : List ℕ) (i : ℕ) → length f ≡ 256 → i < 256 → byte_bit (compressed 1 f) i ≡ compress 1 (get_or f i 0)
unfolding compressed
bit-compressed f i long low =
    let values : List ℕ = map (compress 1) f in
    let count : length values ≡ 256 = length-map f (compress 1) ∙ long in
    let place : i ≡ 1 * i + 0 = omega arith in
    ap (byte_bit (groups 1 values)) place
    ∙ byte_bit-groups 1 32 values i 0 (omega arith) (omega arith) (omega arith)
    ∙ ap (λ (x : ℕ). bit_at x 0) (get_or-map (compress 1) f i 0 0 (omega arith))
    ∙ single-bit (compress 1 (get_or f i 0)) (compress-bit (get_or f i 0))

-- a bit of bytes that are unpacked bit by bit
bit-unpacked : (m : List ℕ) (i : ℕ) → length m ≡ 32 → i < 256 → get_or (ungroup 1 m) i 0 ≡ byte_bit m i
unfolding ungroup
bit-unpacked m i long low =
    let place : 1 * i + 0 ≡ i = omega arith in
    let within : i < length (ungroup 1 m) = omega (arith, low, length-bits m long) in
    sym (single-bit (get_or (ungroup 1 m) i 0) (All-regroup 8 1 m i 0 within))
    ∙ bit_at-ungroup 1 256 m i 0 (omega arith) (ap (λ (n : ℕ). 8 * n) long) low (omega arith)
    ∙ ap (byte_bit m) place

message-at : (m : List ℕ) (i : ℕ) → length m ≡ 32 → i < 256 → get_or (decompressed 1 m) i 0 ≡ decompress 1 (byte_bit m i)
unfolding decompressed
message-at m i long low =
    get_or-map (decompress 1) (ungroup 1 m) i 0 0 (omega (arith, low, length-bits m long)) ∙ ap (decompress 1) (bit-unpacked m i long low)

-- ---- what is decrypted

-- the message and the noise
together : Parameters → Family → Key → List ℕ → List ℕ → List ℕ
together set family key m r = sum 3329 (decompressed 1 m) (noise_modulo set family key m r)

length-together : (set : Parameters) (family : Family) (key : Key) (m r : List ℕ) → length m ≡ 32 → length (together set family key m r) ≡ 256
unfolding together
length-together set family key m r long =
    (IsPolynomial-sum (decompressed 1 m) (noise_modulo set family key m r) (length-message m long) (IsPolynomial-noise_modulo set family key m r long).size).size

together-at : (set : Parameters) (family : Family) (key : Key) (m r : List ℕ) (i : ℕ) → length m ≡ 32 → i < 256
    → get_or (together set family key m r) i 0 ≡ plus 3329 (decompress 1 (byte_bit m i)) (get_or (noise_modulo set family key m r) i 0)
unfolding together
together-at set family key m r i long low =
    let noise : List ℕ = noise_modulo set family key m r in
    get_or-zip2 (plus 3329) (decompressed 1 m) noise i 0 0 0 (omega (arith, low, length-message m long))
    (omega (arith, low, (IsPolynomial-noise_modulo set family key m r long).size))
    ∙ ap (λ (x : ℕ). plus 3329 x (get_or noise i 0)) (message-at m i long low)

decrypted : (set : Parameters) (family : Family) (key : Key) (m r : List ℕ) → Widths set → KeyIs set family key → length m ≡ 32
    → decrypt set key.s (cipher set family key m r) ≡ compressed 1 (together set family key m r)
unfolding decrypt together
decrypted set family key m r wide is long = ap (compressed 1) (noise-beside set family key m r wide is long)

decrypted-bit : (set : Parameters) (family : Family) (key : Key) (m r : List ℕ) (i : ℕ) → Widths set → KeyIs set family key → length m ≡ 32 → i < 256
    → byte_bit (decrypt set key.s (cipher set family key m r)) i ≡ compress 1 (plus 3329 (decompress 1 (byte_bit m i)) (get_or (noise_modulo set family key m r) i 0))
decrypted-bit set family key m r i wide is long low =
    ap (λ (bytes : List ℕ). byte_bit bytes i) (decrypted set family key m r wide is long)
    ∙ bit-compressed (together set family key m r) i (length-together set family key m r long) low
    ∙ ap (compress 1) (together-at set family key m r i long low)

noise-at : (set : Parameters) (family : Family) (key : Key) (m r : List ℕ) (i : ℕ) → length m ≡ 32 → i < 256
    → slice_index_or (noise_of set family key m r) i (pos 0) ≡ centred (get_or (noise_modulo set family key m r) i 0)
noise-at set family key m r i long low =
    get_or-map centred (noise_modulo set family key m r) i 0 (pos 0) (omega (arith, low, (IsPolynomial-noise_modulo set family key m r long).size))

-- a bit is right exactly where its noise is inside
pub bit-right : (set : Parameters) (family : Family) (key : Key) (m r : List ℕ) (i : ℕ) → Widths set → KeyIs set family key → length m ≡ 32 → i < 256
    → (byte_bit (decrypt set key.s (cipher set family key m r)) i ≡ byte_bit m i) ↔ IsInside (byte_bit m i) (slice_index_or (noise_of set family key m r) i (pos 0))
bit-right set family key m r i wide is long low =
    let n_is : IsPolynomial 3329 (noise_modulo set family key m r) = IsPolynomial-noise_modulo set family key m r long in
    rw (decrypted-bit set family key m r i wide is long low, noise-at set family key m r i long low)
    (interval (byte_bit m i) (get_or (noise_modulo set family key m r) i 0) (bit_at-lt _ _) (n_is.each i 0 (omega (arith, low, n_is.size))))

-- ---- the whole message

repacked : (m : List ℕ) → AreBytes 32 m → groups 1 (ungroup 1 m) ≡ m
unfolding groups ungroup
repacked m bytes = regroup-regroup 8 1 256 m (omega arith) (omega arith) (ap (λ (n : ℕ). 8 * n) bytes.size) bytes.each

whole-compressed : (f m : List ℕ) → length f ≡ 256 → AreBytes 32 m → ((i : ℕ) → i < 256 → compress 1 (get_or f i 0) ≡ byte_bit m i) → compressed 1 f ≡ m
unfolding compressed
whole-compressed f m long bytes each =
    let values : List ℕ = map (compress 1) f in
    let count : length values ≡ 256 = length-map f (compress 1) ∙ long in
    ap (groups 1)
    (ext_get_or 0 values (ungroup 1 m) (count ∙ sym (length-bits m bytes.size))
    (λ i within.
    let low : i < 256 = omega (arith, within, count) in
    get_or-map (compress 1) f i 0 0 (omega (arith, low, long)) ∙ each i low ∙ sym (bit-unpacked m i bytes.size low)))
    ∙ repacked m bytes

pub message-right : (set : Parameters) (family : Family) (key : Key) (m r : List ℕ) → Widths set → KeyIs set family key → AreBytes 32 m
    → (decrypt set key.s (cipher set family key m r) ≡ m) ↔ AllInside m (noise_of set family key m r)
message-right set family key m r wide is bytes =
    let long : length m ≡ 32 = bytes.size in
    let f : List ℕ = together set family key m r in (
      λ same i low. (bit-right set family key m r i wide is long low).0 (ap (λ (x : List ℕ). byte_bit x i) same),
      λ inside.
          decrypted set family key m r wide is long
          ∙ whole-compressed f m (length-together set family key m r long) bytes
          (λ i low.
          ap (compress 1) (together-at set family key m r i long low)
          ∙ sym (decrypted-bit set family key m r i wide is long low)
          ∙ (bit-right set family key m r i wide is long low).1 (inside i low)),
    )
