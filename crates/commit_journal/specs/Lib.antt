pub mod Gate
pub mod Halves
pub mod Places
pub mod Prepare
pub mod Record
pub mod Table
