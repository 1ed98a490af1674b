mod BothSides
mod LatticeRefusals
mod Schedules
mod SingleShots
mod Xor
