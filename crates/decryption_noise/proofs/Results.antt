-- The laws, from what a key and a ciphertext are made of.
use Rattle.std.proofs.Common.{◌≡◌, ◌≢◌, ℕ, ◌<◌, List, ◌++◌, Some, All, length, take, sym, subst, ap, ◌∙◌}
use Rattle.std.specs.Prelude.{◌↔◌, ◌≤ℤ◌, neg_ℤ, pos, slice_index_or}
use Rattle.std.proofs.lemmas.List.{length-map}
use Rattle.std.proofs.lemmas.List.Elements.{All-map, All-weaker}
use Rattle.std.proofs.lemmas.Option.{same_Some}
use Rattle.kem_hash.specs.Family.{AreBytes, Family}
use Rattle.module_lattice.specs.Bits.{byte_bit}
use Rattle.module_lattice.specs.Ring.{difference, product, sum}
use Rattle.module_lattice.specs.Vectors.{dot_product, vector_sum}
use Rattle.ml_kem.specs.Encapsulation.{decaps, encaps, key_and_coins}
use Rattle.ml_kem.specs.Encryption.{decompressed, decrypt, encrypt, rounded_u, rounded_v}
use Rattle.ml_kem.specs.Keys.{Key, key_of}
use Rattle.ml_kem.specs.Parameters.{IsSet, Parameters}
use Rattle.decryption_noise.specs.Noise.{AllInside, IsInside, centred, change_of_u, change_of_v, honest_coins, noise_modulo, noise_of, randomness, unrounded_u, unrounded_v}
use Rattle.decryption_noise.proofs.Decapsulation.{decaps-rejected, decaps-right, decaps-taken, encaps-parts}
use Rattle.decryption_noise.proofs.Decryption.{bit-right, message-right}
use Rattle.decryption_noise.proofs.Identity.{IsPolynomial-noise_modulo, cipher, noise-beside, u-changed, v-changed, widths}
use Rattle.decryption_noise.proofs.Intervals.{centred-least, centred-most}
use Rattle.decryption_noise.proofs.Keys.{encrypt-is, key-is}

-- ---- ciphertexts

pub ciphertext-of : (set : Parameters) (family : Family) (seed m r : List ℕ) (key : Key) → key_of set family seed ≡ Some key
    → encrypt set family key.ek m r ≡ Some (cipher set family key m r)
ciphertext-of set family seed m r key there = encrypt-is set family key m r (key-is set family seed key there)

same-cipher : (set : Parameters) (family : Family) (seed m r c : List ℕ) (key : Key) → key_of set family seed ≡ Some key
    → encrypt set family key.ek m r ≡ Some c → cipher set family key m r ≡ c
same-cipher set family seed m r c key there made = same_Some _ _ (sym (ciphertext-of set family seed m r key there) ∙ made)

pub u-of : (set : Parameters) (family : Family) (seed m r c : List ℕ) (key : Key) → IsSet set → key_of set family seed ≡ Some key → encrypt set family key.ek m r ≡ Some c
    → rounded_u set c ≡ vector_sum 3329 (unrounded_u set key (randomness set family r)) (change_of_u set key (randomness set family r))
u-of set family seed m r c key is there made =
    ap (rounded_u set) (sym (same-cipher set family seed m r c key there made)) ∙ u-changed set family key m r (widths set is)

pub v-of : (set : Parameters) (family : Family) (seed m r c : List ℕ) (key : Key) → IsSet set → key_of set family seed ≡ Some key → length m ≡ 32
    → encrypt set family key.ek m r ≡ Some c → rounded_v set c ≡ sum 3329 (unrounded_v key (randomness set family r) m) (change_of_v set key (randomness set family r) m)
v-of set family seed m r c key is there long made =
    ap (rounded_v set) (sym (same-cipher set family seed m r c key there made)) ∙ v-changed set family key m r (widths set is) long

-- ---- noise

pub identity-of : (set : Parameters) (family : Family) (seed m r c : List ℕ) (key : Key) → IsSet set → key_of set family seed ≡ Some key → length m ≡ 32
    → encrypt set family key.ek m r ≡ Some c
    → difference 3329 (rounded_v set c) (dot_product 3329 (product 3329) key.s (rounded_u set c)) ≡ sum 3329 (decompressed 1 m) (noise_modulo set family key m r)
identity-of set family seed m r c key is there long made =
    ap (λ (d : List ℕ). difference 3329 (rounded_v set d) (dot_product 3329 (product 3329) key.s (rounded_u set d))) (sym (same-cipher set family seed m r c key there made))
    ∙ noise-beside set family key m r (widths set is) (key-is set family seed key there) long

pub length-noise_of : (set : Parameters) (family : Family) (m r : List ℕ) (key : Key) → length m ≡ 32 → length (noise_of set family key m r) ≡ 256
length-noise_of set family m r key long =
    length-map (noise_modulo set family key m r) centred ∙ (IsPolynomial-noise_modulo set family key m r long).size

pub noise_of-within : (set : Parameters) (family : Family) (m r : List ℕ) (key : Key) → length m ≡ 32
    → All (λ x. (neg_ℤ (pos 1664) ≤ℤ x) × (x ≤ℤ pos 1664)) (noise_of set family key m r)
noise_of-within set family m r key long =
    All-map (λ x. (neg_ℤ (pos 1664) ≤ℤ x) × (x ≤ℤ pos 1664)) centred (noise_modulo set family key m r)
    (All-weaker (λ x. x < 3329) (λ x. (neg_ℤ (pos 1664) ≤ℤ centred x) × (centred x ≤ℤ pos 1664)) (λ x low. (centred-least x low, centred-most x low))
    (noise_modulo set family key m r) (IsPolynomial-noise_modulo set family key m r long).each)

-- ---- decryption

pub bit-of : (set : Parameters) (family : Family) (seed m r c : List ℕ) (key : Key) → IsSet set → key_of set family seed ≡ Some key → length m ≡ 32
    → encrypt set family key.ek m r ≡ Some c → (i : ℕ) → i < 256
    → (byte_bit (decrypt set key.s c) i ≡ byte_bit m i) ↔ IsInside (byte_bit m i) (slice_index_or (noise_of set family key m r) i (pos 0))
bit-of set family seed m r c key is there long made i low =
    subst (λ (d : List ℕ). (byte_bit (decrypt set key.s d) i ≡ byte_bit m i) ↔ IsInside (byte_bit m i) (slice_index_or (noise_of set family key m r) i (pos 0)))
    (same-cipher set family seed m r c key there made)
    (bit-right set family key m r i (widths set is) (key-is set family seed key there) long low)

pub message-of : (set : Parameters) (family : Family) (seed m r c : List ℕ) (key : Key) → IsSet set → key_of set family seed ≡ Some key → AreBytes 32 m
    → encrypt set family key.ek m r ≡ Some c → (decrypt set key.s c ≡ m) ↔ AllInside m (noise_of set family key m r)
message-of set family seed m r c key is there bytes made =
    subst (λ (d : List ℕ). (decrypt set key.s d ≡ m) ↔ AllInside m (noise_of set family key m r))
    (same-cipher set family seed m r c key there made)
    (message-right set family key m r (widths set is) (key-is set family seed key there) bytes)

-- ---- decapsulation

pub inside-of : (set : Parameters) (family : Family) (seed m c shared : List ℕ) (key : Key) → IsSet set → key_of set family seed ≡ Some key → AreBytes 32 m
    → encaps set family key.ek m ≡ Some (c, shared) → AllInside m (noise_of set family key m (honest_coins family key.ek m))
    → decaps set family key.s key.ek key.z c ≡ Some shared
inside-of set family seed m c shared key is there bytes made inside =
    let r : List ℕ = honest_coins family key.ek m in
    decaps-right set family key.s key.ek key.z m c shared made
    ((message-of set family seed m r c key is there bytes (encaps-parts set family key.ek m c shared made).0).1 inside)

pub wrong-of : (set : Parameters) (family : Family) (seed m c shared : List ℕ) (key : Key) → IsSet set → key_of set family seed ≡ Some key → AreBytes 32 m
    → encaps set family key.ek m ≡ Some (c, shared) → (AllInside m (noise_of set family key m (honest_coins family key.ek m)) → ⊥) → decrypt set key.s c ≢ m
wrong-of set family seed m c shared key is there bytes made outside same =
    let r : List ℕ = honest_coins family key.ek m in
    outside ((message-of set family seed m r c key is there bytes (encaps-parts set family key.ek m c shared made).0).0 same)

pub taken-of : (set : Parameters) (family : Family) (seed c : List ℕ) (key : Key) → key_of set family seed ≡ Some key
    → (let m = decrypt set key.s c in encrypt set family key.ek m (honest_coins family key.ek m)) ≡ Some c
    → decaps set family key.s key.ek key.z c ≡ Some (take 32 (key_and_coins family key.ek (decrypt set key.s c)))
taken-of set family seed c key there again = decaps-taken set family key.s key.ek key.z c again

pub rejected-of : (set : Parameters) (family : Family) (seed c : List ℕ) (key : Key) → key_of set family seed ≡ Some key
    → (let m = decrypt set key.s c in encrypt set family key.ek m (honest_coins family key.ek m)) ≢ Some c
    → decaps set family key.s key.ek key.z c ≡ Some (family.j_of (key.z ++ c))
rejected-of set family seed c key there unlike =
    let m : List ℕ = decrypt set key.s c in
    let r : List ℕ = honest_coins family key.ek m in
    let other : List ℕ = cipher set family key m r in
    let made : encrypt set family key.ek m r ≡ Some other = ciphertext-of set family seed m r key there in
    decaps-rejected set family key.s key.ek key.z c other made (λ same. unlike (made ∙ ap Some same))
