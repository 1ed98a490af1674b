-- the family of zeros is lawful
pub mod ZerosLaws
