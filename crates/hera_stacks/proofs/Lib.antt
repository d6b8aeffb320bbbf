pub mod Flattened
pub mod Keeping
pub mod Stacking
