mod Encoding
mod Modular
mod Places
mod Powers
mod Products
mod Sums
mod Totals
mod Vectors
pub mod BitLists
pub mod Regrouping
pub mod Words
pub mod Units
pub mod BitLaws
