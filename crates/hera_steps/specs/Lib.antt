pub mod Working
pub mod Descends
pub mod Telling
pub mod Sparing
pub mod Finding
pub mod Answering
