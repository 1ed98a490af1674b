-- multiplication in a field of binary polynomials
pub mod FieldMul
-- the block cipher and its key schedule
pub mod Aes
-- the hash over whole blocks
pub mod Ghash
-- sealing and opening
pub mod Gcm
-- what private functions compute: nothing in it has to be believed
pub mod private
