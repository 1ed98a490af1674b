-- what a text comes to for the legacy reader
pub mod Legacy
