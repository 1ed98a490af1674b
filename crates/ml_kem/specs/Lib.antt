-- the table of parameter sets
pub mod Parameters
-- compression and decompression
pub mod Rounding
-- sampling of polynomials
pub mod Samples
-- the matrix of a public seed, and noise
pub mod Matrix
-- key generation, and the parts of keys
pub mod Keys
-- encryption and decryption
pub mod Encryption
-- how a call answers a meaning that is a value or none
pub mod Answers
-- encapsulation and decapsulation
pub mod Encapsulation
-- what a decapsulation key holds, and its expanded form
pub mod Expanded
-- invariants of types: no definitions of what calls answer
pub mod private
