pub mod Spots
pub mod Ways
pub mod Plain
pub mod Operations
