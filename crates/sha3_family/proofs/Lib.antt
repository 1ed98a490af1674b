-- what is read of an output first
pub mod First
