pub mod Guarding
pub mod Opening
pub mod Reading
