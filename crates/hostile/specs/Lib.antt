-- the family of hash functions that give zeros
pub mod Zeros
-- a proof that its `impl` cites: no definitions
pub mod private
