pub mod Pagings
pub mod Pages
pub mod Ends
pub mod Halves
pub mod Broken
