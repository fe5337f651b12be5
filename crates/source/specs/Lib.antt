pub mod Hearing
pub mod Forms
pub mod Telling
pub mod Listening
