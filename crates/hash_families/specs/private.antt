-- the families whose XOF repeats three bytes are lawful
pub mod RepeatingLaws
-- the family whose PRF repeats one byte is lawful
pub mod OneByteLaws
