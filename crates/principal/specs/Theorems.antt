pub mod Canonical
pub mod Added
