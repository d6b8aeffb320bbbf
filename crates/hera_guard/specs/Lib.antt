pub mod Guards
pub mod Guarded
pub mod Suiting
