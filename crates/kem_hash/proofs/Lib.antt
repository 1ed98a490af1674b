-- pieces that are written one behind another
pub mod Joined
