pub mod Exact
pub mod Others
