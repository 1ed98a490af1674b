-- the checksum's register
pub mod Register
-- the bytes of a part in lower case
pub mod Lowered
-- bits that wait to be written
pub mod Waiting
