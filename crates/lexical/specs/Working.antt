pub mod Open
pub mod Common
pub mod Lone
pub mod Runs
pub mod Plain
pub mod Short
