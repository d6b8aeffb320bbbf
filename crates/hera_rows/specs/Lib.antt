pub mod Blocks
pub mod Boxed
pub mod Froms
pub mod Packed
pub mod Places
