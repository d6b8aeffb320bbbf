pub mod PackedRows
pub mod PlaceLemmas
pub mod Fronts
pub mod BlockLemmas
pub mod EndLemmas
pub mod StackLemmas
pub mod FromLemmas
