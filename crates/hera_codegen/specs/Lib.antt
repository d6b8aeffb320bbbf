pub mod Correct
pub mod Holes
pub mod Roles
