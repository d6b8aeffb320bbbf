pub mod Reading
pub mod Pieces
pub mod Beginnings
pub mod Numbers
