pub mod Rejected
pub mod Looks
pub mod Spans
pub mod Slots
pub mod Tables
pub mod Calls
