pub mod Spans
pub mod Given
pub mod Ranged
pub mod Ways
pub mod Writes
pub mod Ends
