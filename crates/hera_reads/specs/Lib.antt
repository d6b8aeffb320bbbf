pub mod Branched
pub mod Kinds
pub mod Seeing
pub mod Walking
pub mod Counted
