pub mod Pieces
pub mod Told
