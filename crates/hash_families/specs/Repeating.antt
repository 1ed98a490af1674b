-- The family of hash functions whose XOF repeats three bytes.
use Rattle.std.specs.Prelude.{ℕ, List}
use Rattle.std.specs.List.{flat_map, range_with_len}
use Rattle.kem_hash.specs.Family.{Family}
use Rattle.kem_hash.specs.Sha2.{sha2_family}

-- the other functions are those of SHA-2; XOF has 2688 bytes
abbrev pub repeating_family : List ℕ → Family
repeating_family bytes = record sha2_family { xof_of = λ rho a b. flat_map (λ i. bytes) (range_with_len 0 896) }
