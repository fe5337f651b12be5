pub mod Layouts
pub mod Round
pub mod Slots
