pub mod Names
pub mod Hearing
pub mod Whole
