-- pieces that are all the same
pub mod Pieces
