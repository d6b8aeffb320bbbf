pub mod Names
pub mod Bools
pub mod Atoms
pub mod DeltaLaws
pub mod CommitLaws
pub mod ByteOrder
pub mod RowOrder
pub mod RowsRead
pub mod WiderLaws
pub mod Levels
pub mod PlainLaws
mod Worked
mod Worked_shop
mod Worked_values
mod Worked_sound
