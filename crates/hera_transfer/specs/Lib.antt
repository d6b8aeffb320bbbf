pub mod Transfers
pub mod Reading
