pub mod NameSets
pub mod Tests
pub mod Operations
