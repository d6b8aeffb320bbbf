pub mod Fitting
pub mod Action
pub mod Keeping
pub mod Folder
pub mod Opening
pub mod Running
