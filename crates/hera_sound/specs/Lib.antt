pub mod Types_found
