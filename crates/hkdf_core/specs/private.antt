-- that digests of SHA-256, SHA-384 and SHA-512 are bytes
pub mod Digests
