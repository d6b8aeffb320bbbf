pub mod Complete
pub mod Gates
pub mod Halves
pub mod Once
pub mod Printed
pub mod Records
pub mod Steps
pub mod Wholes
