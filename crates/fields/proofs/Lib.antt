pub mod Accepted
pub mod Halves
pub mod Same
