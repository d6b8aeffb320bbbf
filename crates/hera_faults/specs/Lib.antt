pub mod Least
pub mod Broken
