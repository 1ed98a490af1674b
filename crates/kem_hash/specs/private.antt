-- the family that stands on SHA-2 is lawful
pub mod Sha2Laws
