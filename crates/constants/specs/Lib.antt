pub mod Constants
pub mod Working
pub mod Theorems
