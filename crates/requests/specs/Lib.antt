pub mod Least
pub mod Notices
pub mod Records
