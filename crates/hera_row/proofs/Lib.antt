pub mod Zeros
pub mod Numbers
pub mod FieldLemmas
pub mod RowLemmas
pub mod Words
pub mod EntryLemmas
pub mod SchemaNames
pub mod Widened
