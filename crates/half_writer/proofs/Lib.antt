pub mod RowSizes
pub mod Fills
pub mod Pagings
pub mod Wholes
pub mod States
