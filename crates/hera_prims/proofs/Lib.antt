pub mod Ranges
pub mod Equals
pub mod Fitted
pub mod Tuples
pub mod Computed
pub mod Sparing
pub mod Named
pub mod Traps
