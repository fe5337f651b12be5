pub mod Names
pub mod Faults
pub mod Fields
