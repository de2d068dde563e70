pub mod Examples
pub mod Rounded
pub mod Each
pub mod Converted
