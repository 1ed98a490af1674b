mod Absorbing
mod Blocks
mod Fronts
mod Padding
pub mod Sizes
mod Squeezing
