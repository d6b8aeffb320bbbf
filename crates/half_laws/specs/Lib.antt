pub mod Behind
pub mod Formats
