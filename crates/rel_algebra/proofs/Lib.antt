pub mod PieceLemmas
pub mod Gathered
pub mod FrontLemmas
