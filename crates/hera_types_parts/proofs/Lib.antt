pub mod Before
pub mod Equal
pub mod Giving
pub mod Snocs
pub mod Sets
