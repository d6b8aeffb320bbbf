pub mod Passages
pub mod Refusals
pub mod Answers
pub mod Cut
pub mod Outcomes
pub mod Told
