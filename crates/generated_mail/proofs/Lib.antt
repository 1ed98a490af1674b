pub mod Sealed
pub mod Mails
pub mod Messages
