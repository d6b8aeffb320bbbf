pub mod Atoms
pub mod Parts
pub mod Kept
pub mod Refs
pub mod Edits
pub mod Plain
