-- Encapsulation, decapsulation and the expanded form of a decapsulation key (FIPS 203, sections 6.1
-- to 6.3).
use Rattle.std.specs.Prelude.{ℕ, List, ◌++◌, Option, take, drop, if◌then◌else◌}
use Rattle.std.specs.Option.{option_map}
use Rattle.std.specs.Str.{bytes_eq}
use Rattle.kem_hash.specs.Family.{Family}
use Rattle.ml_kem.specs.Encryption.{decrypt, encrypt}
use Rattle.ml_kem.specs.Parameters.{Parameters}

-- the shared key and the coins of encryption: the two halves of G(m, H(ek)) (algorithm 17, line 1)
abbrev pub key_and_coins : Family → List ℕ → List ℕ → List ℕ
key_and_coins family ek m = family.g_of (m ++ family.h_of ek)

-- ML-KEM.Encaps_internal (algorithm 17): the ciphertext and the shared key, or none where a sample of
-- the encapsulation key's rho is none
unfoldable pub encaps : Parameters → Family → List ℕ → List ℕ → Option (List ℕ × List ℕ)
encaps set family ek m =
    let made = key_and_coins family ek m in
    option_map (λ c. (c, take 32 made)) (encrypt set family ek m (drop 32 made))

-- the shared key where encrypting again gives c, and else the one that z and c give by J (algorithm 18,
-- lines 7 to 11)
abbrev pub chosen_key : Family → List ℕ → List ℕ → List ℕ → List ℕ → List ℕ
chosen_key family key z c again = if bytes_eq again c then key else family.j_of (z ++ c)

-- ML-KEM.Decaps_internal (algorithm 18) under the vector s, or none where a sample of the encapsulation
-- key's rho is none
unfoldable pub decaps : Parameters → Family → List (List ℕ) → List ℕ → List ℕ → List ℕ → Option (List ℕ)
decaps set family s ek z c =
    let m = decrypt set s c in
    let made = key_and_coins family ek m in
    option_map (chosen_key family (take 32 made) z c) (encrypt set family ek m (drop 32 made))
