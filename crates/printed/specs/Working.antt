pub mod Filling
pub mod Adding
