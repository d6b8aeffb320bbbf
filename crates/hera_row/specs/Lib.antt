pub mod Fields
pub mod Reading
pub mod Numbers
pub mod Entries
