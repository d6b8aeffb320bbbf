pub mod Ends
pub mod Kept
pub mod Own
pub mod Loops
pub mod Found
