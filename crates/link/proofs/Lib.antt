pub mod Turns
pub mod Spelling
