pub mod Printing
pub mod Fitting
pub mod Reading
pub mod Files
