pub mod Asking
pub mod Commands
pub mod Exchanges
pub mod Handling
pub mod Nexts
pub mod Passing
