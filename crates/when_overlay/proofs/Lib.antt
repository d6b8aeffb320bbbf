pub mod Layering
pub mod Signing
pub mod Meeting
pub mod Walking
pub mod Viewing
pub mod Counting
pub mod Silence
pub mod Changing
