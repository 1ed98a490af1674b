-- SubBytes by half bytes
pub mod Nibbles
-- counter blocks further on
pub mod Counters
-- the sum of GHASH piece by piece
pub mod Continued
-- products by rows
pub mod Rows
