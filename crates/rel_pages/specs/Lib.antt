pub mod Stored
pub mod Reading
pub mod Rels
pub mod Parts
pub mod Halves
pub mod Looks
pub mod Starts
