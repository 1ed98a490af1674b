-- what keys keep
pub mod Kept
