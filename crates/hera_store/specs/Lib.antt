pub mod Databases
pub mod Standing
pub mod Moments
pub mod Faults
pub mod Widened
