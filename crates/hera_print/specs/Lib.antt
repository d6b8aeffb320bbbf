pub mod Commas
