pub mod Bits
pub mod Faults
pub mod Packing
pub mod Reading
pub mod Buffers
pub mod Held
