pub mod Written
pub mod Paging
