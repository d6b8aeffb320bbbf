pub mod Exact
pub mod Beginnings
pub mod Whole
pub mod OneFault
mod Numbered
