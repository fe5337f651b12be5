pub mod Agreement
pub mod History
pub mod Key
pub mod Records
pub mod Shapes
pub mod State
