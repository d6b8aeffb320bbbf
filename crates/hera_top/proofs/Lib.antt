mod Answering
mod Reading
mod Guarding
mod Distinct
mod Drilled
mod Dumped
mod Making
mod Renewing
mod Running
pub mod Statuses
mod Widening
mod Weaving
