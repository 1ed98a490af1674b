-- layers over rows of 16 numbers
pub mod Rows
