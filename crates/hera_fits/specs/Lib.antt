pub mod Newest
pub mod Wanted
pub mod Tables
pub mod Joins
