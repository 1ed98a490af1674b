-- refusals of the calls below
pub mod Refusals
