-- the permutation Keccak-f[1600] (FIPS 202, section 3)
pub mod Keccak
-- the sponge over it (FIPS 202, sections 4 and 5)
pub mod Sponge
-- SHA3-256, SHA3-512, SHAKE128 and SHAKE256 (FIPS 202, section 6)
pub mod Sha3
-- messages and outputs piece by piece
pub mod Pieces
-- what was taken in and given, of the public types
pub mod Hashers
