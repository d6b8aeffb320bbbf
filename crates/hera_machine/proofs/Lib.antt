pub mod Along
pub mod Advancing
pub mod Quietly
pub mod Joined
pub mod Counted
