-- bytes, and numbers in bytes
pub mod Bytes
-- when bytes are refused as a value
pub mod Refusals
-- how a call answers a meaning that is a value or none
pub mod Answers
-- LabeledExtract and LabeledExpand (RFC 9180, section 4)
pub mod Labels
-- the key schedule, and contexts (RFC 9180, section 5.1)
pub mod Schedule
-- what a recipient's mode brings (RFC 9180, section 5)
pub mod RecipientMode
-- what a sender's mode brings (RFC 9180, section 5)
pub mod SenderMode
-- the nonces of messages (RFC 9180, section 5.2)
pub mod Nonce
-- how a context answers a call that uses its next number
pub mod Messages
-- a setup and one message (RFC 9180, section 6.1)
pub mod SingleShot
-- the test KEM
pub mod Mask
-- the KEM of ML-KEM
pub mod Lattice
-- proofs that an `impl` cites: no definitions, and nothing in it has to be believed
pub mod private
