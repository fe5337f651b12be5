pub mod Lists
pub mod Nibbles
pub mod Pairs
pub mod Splits
pub mod Values
