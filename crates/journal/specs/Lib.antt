pub mod Page
pub mod Stores
pub mod Journal
pub mod Rulings
pub mod Theorems
pub mod Working
