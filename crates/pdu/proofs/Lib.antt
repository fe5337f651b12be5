pub mod BitLaws
pub mod Readings
pub mod Rounds
pub mod Sizes
