pub mod Named
pub mod Proper
pub mod Storing
pub mod Importing
pub mod Uniting
pub mod Returning
