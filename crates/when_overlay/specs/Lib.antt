pub mod Changed
pub mod Layered
pub mod Seeking
pub mod Counting
pub mod Committed
