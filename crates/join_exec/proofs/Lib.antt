pub mod PairLemmas
pub mod Matches
pub mod GapLemmas
