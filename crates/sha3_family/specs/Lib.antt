-- the family of hash functions that FIPS 203 names
pub mod Sha3Family
-- a proof that an `impl` cites: no definitions
pub mod private
