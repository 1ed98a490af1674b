pub mod Blocks
pub mod Output
