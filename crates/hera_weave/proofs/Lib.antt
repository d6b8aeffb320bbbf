pub mod Known
pub mod Sitting
pub mod Looming
pub mod Turning
pub mod Moving
mod Touching
