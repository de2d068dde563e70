pub mod Theorems
pub mod Working
