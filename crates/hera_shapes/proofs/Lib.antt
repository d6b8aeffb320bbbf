pub mod Adding
pub mod Agreed
pub mod Begun
pub mod Fitting
pub mod Steps
mod Worked
