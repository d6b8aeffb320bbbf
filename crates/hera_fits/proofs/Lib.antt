pub mod Stacks
pub mod Operands
pub mod Tested
pub mod Meetings
pub mod PlaceTests
