-- the family whose XOF repeats three bytes
pub mod Repeating
-- the family whose PRF repeats one byte of its secret
pub mod OneByte
-- proofs that `impl`s cite: no definitions
pub mod private
