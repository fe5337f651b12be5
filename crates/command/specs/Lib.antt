pub mod Commands
pub mod Replies
