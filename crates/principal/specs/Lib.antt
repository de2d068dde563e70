pub mod Canonical
pub mod Principal
pub mod Members
pub mod Tag
pub mod Rulings
pub mod Theorems
pub mod Working
pub mod Places
