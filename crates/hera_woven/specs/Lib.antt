pub mod Weaving
pub mod Binding
pub mod Going
