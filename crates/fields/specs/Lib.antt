pub mod Fields
pub mod Keys
pub mod Marking
pub mod Refusals
pub mod Values
