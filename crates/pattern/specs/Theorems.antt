pub mod Unique
pub mod Single
pub mod Examples
