-- What private functions answer. No public clause cites it, and nothing here has to be believed.

-- the bytes and the lines of an input
pub mod InputParts
-- the parts of the input of `seal`
pub mod SealParts
-- the mail behind a head, by the names of a suite
pub mod Opening
-- the mail that `seal` writes, by the names of a suite
pub mod Sealing
-- what an outcome is written as
pub mod Telling
