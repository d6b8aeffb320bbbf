pub mod Flat
pub mod Stacked
pub mod Kept
