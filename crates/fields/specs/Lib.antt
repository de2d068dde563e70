pub mod Parsed
pub mod Version
pub mod Constants
pub mod Signature
pub mod Working
pub mod Theorems
