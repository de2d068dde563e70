pub mod Standing
pub mod Unread
