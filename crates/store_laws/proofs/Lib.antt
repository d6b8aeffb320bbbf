pub mod Ends
pub mod Moves
pub mod Catalogues
pub mod Wholes
pub mod Founds
