pub mod Points
pub mod Effects
pub mod Typed
pub mod Notes
pub mod Safe
pub mod Pass
