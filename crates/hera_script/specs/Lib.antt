pub mod Labels
pub mod Refusing
pub mod Faults
