pub mod Passes
pub mod Scopes
