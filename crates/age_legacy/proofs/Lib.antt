pub mod Characters
pub mod Runs
pub mod Bodies
pub mod Readings
