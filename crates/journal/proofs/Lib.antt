pub mod Working
pub mod Theorems
