pub mod Comparing
pub mod Tagging
