-- numbers and their digits
pub mod DigitLemmas
-- the checksum's register
pub mod Registers
-- bits that wait
pub mod Queues
-- characters and the place of the separator
pub mod Characters
-- lists that are changed place by place
pub mod Mapped
-- human-readable parts
pub mod Parts
-- texts written and read
pub mod Texts
-- bytes as groups and back
pub mod Regrouped
-- what six values do to the register
pub mod Residues
-- what was written is read, and what was read is written
pub mod ReadLaws
-- long division
pub mod Division
