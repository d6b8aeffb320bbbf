pub mod Having
pub mod Meaning
