pub mod Totals
pub mod Bests
pub mod KeyLemmas
pub mod GroupLemmas
pub mod KeySteps
pub mod PartLemmas
