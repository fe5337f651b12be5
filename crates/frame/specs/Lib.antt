pub mod Frames
pub mod Layout
pub mod Outside
pub mod Rows
