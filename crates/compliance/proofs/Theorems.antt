pub mod Represent
pub mod Flags
