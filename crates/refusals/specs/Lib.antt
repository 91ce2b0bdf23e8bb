pub mod Limits
pub mod Replies
pub mod Unreads
