pub mod Items
pub mod Waiting
pub mod Kinds
pub mod Calling
