pub mod Seats
pub mod Standing
pub mod Tasks
pub mod Looms
pub mod Rotas
