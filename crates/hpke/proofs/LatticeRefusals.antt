-- When a call of the KEM of ML-KEM is refused.
use Rattle.std.proofs.Common.{◌≡◌, ◌≢◌, ℕ, List, [], length, take, Option, Some, None, IsSome, refl, sym, ap, ◌∙◌}
use Rattle.std.specs.Prelude.{◌↔◌}
use Rattle.std.specs.Option.{option_map, option_map_or, option_and_then}
use Rattle.std.proofs.lemmas.Option.{none-some, same_Some}
use Rattle.kem_hash.specs.Family.{Family, IsLawful}
use Rattle.ml_kem.specs.Encapsulation.{decaps, encaps}
use Rattle.ml_kem.specs.Expanded.{SecretKey, key_of_seed}
use Rattle.ml_kem.specs.Keys.{Key, expanded_seed, key_of, rho_part}
use Rattle.ml_kem.specs.Matrix.{matrix}
use Rattle.ml_kem.specs.Parameters.{Parameters}
use Rattle.ml_kem.proofs.Secrets.{decaps-there, encaps-none-by, encaps-none-from, key_of-none-by, key_of-none-from, length-decaps, length-encaps, matrix-key_of}
use Rattle.hpke.specs.Lattice.{lattice_decap, lattice_derive, lattice_encap, lattice_public, lattice_seed}
use Rattle.hpke.specs.private.LatticeLaws.{lattice_decap-there}

-- under the seed that a key was made of
pub lattice_decap-seeded : (set : Parameters) (family : Family) (seed : List ℕ) (key : SecretKey) (enc : List ℕ)
    → option_map (key_of_seed seed) (key_of set family seed) ≡ Some key → IsSome (lattice_decap set family seed None enc)
lattice_decap-seeded set family seed key enc is =
    lattice_decap-there set family seed enc (λ none. none-some key (sym (ap (option_map (key_of_seed seed)) none) ∙ is))

-- when encapsulation and derivation are refused
swapped-none : (o : Option (List ℕ × List ℕ)) → option_map {U = List ℕ × List ℕ} (λ made. (made.1, made.0)) o ≡ None → o ≡ None
swapped-none None is = refl
swapped-none (Some made) is = absurd (none-some _ (sym is))

pub lattice_encap-none : (set : Parameters) (family : Family) (pk draw : List ℕ) → (lattice_encap set family pk None draw ≡ None) ↔ (matrix family set.k (rho_part set pk) ≡ None)
lattice_encap-none set family pk draw = (
  λ none. encaps-none-from set family pk draw (swapped-none (encaps set family pk draw) none),
  λ none. ap (option_map {U = List ℕ × List ℕ} (λ made. (made.1, made.0))) (encaps-none-by set family pk draw none),
)

paired-none : (seed : List ℕ) (o : Option Key) → option_map {U = List ℕ × List ℕ} (λ key. (seed, key.ek)) o ≡ None → o ≡ None
paired-none seed None is = refl
paired-none seed (Some key) is = absurd (none-some _ (sym is))

pub lattice_derive-none : (set : Parameters) (family : Family) (ikm : List ℕ)
    → (lattice_derive set family ikm ≡ None) ↔ (matrix family set.k (take 32 (expanded_seed set family (lattice_seed set ikm))) ≡ None)
lattice_derive-none set family ikm =
    let seed : List ℕ = lattice_seed set ikm in (
      λ none. key_of-none-from set family seed (paired-none seed (key_of set family seed) none),
      λ none. ap (option_map {U = List ℕ × List ℕ} (λ key. (seed, key.ek))) (key_of-none-by set family seed none),
    )

pub lattice_decap-sampled : (set : Parameters) (family : Family) (sk enc : List ℕ) → matrix family set.k (take 32 (expanded_seed set family sk)) ≢ None
    → IsSome (lattice_decap set family sk None enc)
lattice_decap-sampled set family sk enc there = lattice_decap-there set family sk enc (λ none. there (key_of-none-from set family sk none))
