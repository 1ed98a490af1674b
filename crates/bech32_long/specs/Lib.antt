-- numbers by their digits, and bytes as groups of five bits
pub mod Groups
-- the field of 32 elements
pub mod Field
-- the checksum: a remainder of polynomials over that field
pub mod Checksum
-- human-readable parts
pub mod Part
-- the text of a part and bytes, and what a text is read as
pub mod Text
-- how the calls answer
pub mod Answers
-- what private functions compute: nothing in it has to be believed
pub mod private
