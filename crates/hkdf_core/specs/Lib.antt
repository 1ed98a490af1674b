-- HMAC: the key as one block, the two pads, the keyed hash (RFC 2104)
pub mod Hmac
-- HKDF: Extract, the blocks T(i), Expand (RFC 5869)
pub mod Hkdf
-- what the two streaming types have been fed
pub mod Fed
-- proofs that an `impl` cites: no definitions, and nothing in it has to be believed
pub mod private
