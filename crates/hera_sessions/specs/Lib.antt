pub mod Agreeing
pub mod Beginnings
pub mod Reads
pub mod Scanning
pub mod Sessions
pub mod Turns
pub mod Weaving
