pub mod Parts
pub mod Pdus
pub mod Lists
pub mod Whole
pub mod Bits
pub mod Bytes
