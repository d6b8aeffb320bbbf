pub mod Attributes
pub mod Faults
