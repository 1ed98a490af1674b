-- a family of hash functions by its five meanings, and the laws of a family
pub mod Family
-- the family that stands on SHA-2
pub mod Sha2
-- proofs that an `impl` cites: no definitions
pub mod private
