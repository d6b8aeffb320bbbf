pub mod Packed
pub mod Writing
pub mod Executed
