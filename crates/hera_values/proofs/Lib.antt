pub mod Slots
pub mod FieldsGiven
pub mod Larges
