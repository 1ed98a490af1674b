-- the family is lawful
pub mod Sha3Laws
