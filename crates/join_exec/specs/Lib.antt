pub mod Leading
pub mod Gaps
