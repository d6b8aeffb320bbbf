pub mod Block_lemmas
pub mod Decided
pub mod Made
pub mod Returning
pub mod Steps
pub mod Turns
