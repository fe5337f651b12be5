pub mod Heard
pub mod Rounds
