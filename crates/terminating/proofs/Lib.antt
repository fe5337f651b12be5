pub mod Calls
pub mod Turns
