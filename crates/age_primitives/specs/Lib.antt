-- how a text is decoded, by what three closures answer
pub mod Decoding
-- the key derivation function of hybrid encryption
pub mod Suite
