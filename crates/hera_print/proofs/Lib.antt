pub mod Joined
pub mod Picked
