pub mod Bounds
pub mod Links
pub mod Messages
pub mod Places
pub mod Queue
pub mod Ring
pub mod Rings
