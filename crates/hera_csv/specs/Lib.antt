pub mod Fields
pub mod Listed
pub mod Records
pub mod Writers
