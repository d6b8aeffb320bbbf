pub mod Asking
pub mod Seen_values
pub mod Operations_seen
pub mod Homes
pub mod Standing
pub mod Steady
pub mod Turns_left
pub mod Runs
pub mod Charts
pub mod Passes
mod Worked
