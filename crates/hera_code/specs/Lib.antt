pub mod Scheme
pub mod Machine
pub mod Reached
pub mod Forward
pub mod Listing
pub mod Numbered
