mod Building
mod Domain
mod Encoded
mod Generated
mod Meanings
mod Narrow
mod OwnForm
mod Ranges
mod Reduced
mod Rounded
mod Taken
mod Totals
pub mod Secrets
