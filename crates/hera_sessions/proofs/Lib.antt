pub mod Agreement
pub mod Scanned
pub mod Decides
pub mod Meant
pub mod Smashes
pub mod Serially
pub mod Closing
mod Worked
pub mod Growing
pub mod Ways
