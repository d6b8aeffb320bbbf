pub mod Loops
pub mod Told
pub mod Laws
pub mod Schema_law
pub mod Part_laws
pub mod Instr_laws
pub mod File_laws
pub mod Noted
