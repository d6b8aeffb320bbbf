pub mod Ends
pub mod Over
pub mod Standing
pub mod Pairs
pub mod Counted
