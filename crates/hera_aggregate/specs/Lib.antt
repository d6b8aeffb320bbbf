pub mod Extremes
pub mod Groups
