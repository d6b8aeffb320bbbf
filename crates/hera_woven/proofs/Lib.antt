pub mod Schedules
pub mod Carrying
pub mod Commits
pub mod Behind
pub mod Sessions
pub mod Starting
pub mod Telling
pub mod Answering
