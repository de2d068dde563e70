pub mod Unread
pub mod Shown
pub mod Queried
pub mod Topmost
pub mod Standing
pub mod Numbered
pub mod Matched
