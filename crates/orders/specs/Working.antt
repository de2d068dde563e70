pub mod Blocks
pub mod Comparing
