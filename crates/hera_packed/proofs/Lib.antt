pub mod Noting
pub mod Outcomes_one
