pub mod Starts
pub mod Kept
pub mod Lines
mod Worked
