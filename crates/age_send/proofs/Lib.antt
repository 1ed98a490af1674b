pub mod Writing
pub mod Lines
pub mod Draws
pub mod Arguments
pub mod Greases
pub mod Sends
