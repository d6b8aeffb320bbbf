pub mod Tests
pub mod Tables
pub mod Steps
pub mod Choices
pub mod Levels
pub mod JoinedParts
mod Numbered
