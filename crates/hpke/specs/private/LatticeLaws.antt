-- The laws of the KEM of ML-KEM: proofs, and no definitions.
use Rattle.std.proofs.Common.{◌≡◌, ◌≢◌, ℕ, List, [], length, take, Option, Some, None, IsSome, refl, sym, ap, ◌∙◌}
use Rattle.std.specs.Prelude.{◌↔◌}
use Rattle.std.specs.Option.{option_map, option_map_or, option_and_then}
use Rattle.std.proofs.lemmas.Option.{none-some, same_Some}
use Rattle.kem_hash.specs.Family.{Family, IsLawful}
use Rattle.ml_kem.specs.Encapsulation.{decaps, encaps}
use Rattle.ml_kem.specs.Expanded.{SecretKey, key_of_seed}
use Rattle.ml_kem.specs.Keys.{Key, expanded_seed, key_of, rho_part}
use Rattle.ml_kem.specs.Matrix.{matrix}
use Rattle.ml_kem.specs.Parameters.{Parameters}
use Rattle.ml_kem.proofs.Secrets.{decaps-there, encaps-none-by, encaps-none-from, key_of-none-by, key_of-none-from, length-decaps, length-encaps, matrix-key_of}
use Rattle.hpke.specs.Lattice.{lattice_decap, lattice_derive, lattice_encap, lattice_public, lattice_seed}

-- the pair that a key gives
derived-pair : (seed : List ℕ) (o : Option Key) (sk pk : List ℕ) → option_map {U = List ℕ × List ℕ} (λ key. (seed, key.ek)) o ≡ Some (sk, pk)
    → (seed ≡ sk) × (pk ≡ option_map_or (λ key. key.ek) o [])
derived-pair seed None sk pk is = absurd (none-some _ is)
derived-pair seed (Some key) sk pk is =
    let same : (seed, key.ek) ≡ (sk, pk) = same_Some _ _ is in
    (ap (λ (pair : List ℕ × List ℕ). pair.0) same, sym (ap (λ (pair : List ℕ × List ℕ). pair.1) same))

pub lattice_derive-pair : (set : Parameters) (family : Family) (ikm sk pk : List ℕ) → lattice_derive set family ikm ≡ Some (sk, pk) → pk ≡ lattice_public set family sk
lattice_derive-pair set family ikm sk pk is =
    let seed : List ℕ = lattice_seed set ikm in
    let pair = derived-pair seed (key_of set family seed) sk pk is in
    pair.1 ∙ ap (lattice_public set family) pair.0

-- the secret under a key
opened-size : (set : Parameters) (family : Family) (o : Option Key) (enc secret : List ℕ) → IsLawful family
    → option_and_then (λ key. decaps set family key.s key.ek key.z enc) o ≡ Some secret → length secret ≡ 32
opened-size set family None enc secret lawful is = absurd (none-some _ is)
opened-size set family (Some key) enc secret lawful is = length-decaps set family key.s key.ek key.z enc secret lawful is

pub lattice_decap-size : (set : Parameters) (family : Family) → IsLawful family → (sk : List ℕ) (sender : Option (List ℕ)) (enc secret : List ℕ)
    → lattice_decap set family sk sender enc ≡ Some secret → length secret ≡ 32
lattice_decap-size set family lawful sk None enc secret is = opened-size set family (key_of set family sk) enc secret lawful is
lattice_decap-size set family lawful sk (Some sender) enc secret is = absurd (none-some _ is)

-- a value that isn't none is there
is_some-there : {X : Type 0} (o : Option X) → o ≢ None → IsSome o
is_some-there None there = absurd (there refl)
is_some-there (Some x) there = refl

opened-there : (set : Parameters) (family : Family) (seed enc : List ℕ) (o : Option Key) → key_of set family seed ≡ o → o ≢ None
    → IsSome (option_and_then (λ key. decaps set family key.s key.ek key.z enc) o)
opened-there set family seed enc None is there = absurd (there refl)
opened-there set family seed enc (Some key) is there =
    is_some-there (decaps set family key.s key.ek key.z enc) (decaps-there set family key.s key.ek key.z enc (matrix-key_of set family seed key is))

pub lattice_decap-there : (set : Parameters) (family : Family) (sk enc : List ℕ) → key_of set family sk ≢ None → IsSome (lattice_decap set family sk None enc)
lattice_decap-there set family sk enc there = opened-there set family sk enc (key_of set family sk) refl there

-- the secret before the ciphertext
swapped-size : (set : Parameters) (family : Family) (pk draw : List ℕ) (o : Option (List ℕ × List ℕ)) (secret enc : List ℕ) → IsLawful family
    → encaps set family pk draw ≡ o → option_map {U = List ℕ × List ℕ} (λ made. (made.1, made.0)) o ≡ Some (secret, enc) → length secret ≡ 32
swapped-size set family pk draw None secret enc lawful is swapped = absurd (none-some _ swapped)
swapped-size set family pk draw (Some made) secret enc lawful is swapped =
    let same : (made.1, made.0) ≡ (secret, enc) = same_Some _ _ swapped in
    sym (ap (λ (pair : List ℕ × List ℕ). length pair.0) same) ∙ length-encaps set family pk draw made.0 made.1 lawful is

pub lattice_encap-size : (set : Parameters) (family : Family) → IsLawful family → (pk : List ℕ) (sender : Option (List ℕ × List ℕ)) (draw secret enc : List ℕ)
    → lattice_encap set family pk sender draw ≡ Some (secret, enc) → length secret ≡ 32
lattice_encap-size set family lawful pk None draw secret enc is = swapped-size set family pk draw (encaps set family pk draw) secret enc lawful refl is
lattice_encap-size set family lawful pk (Some sender) draw secret enc is = absurd (none-some _ is)
