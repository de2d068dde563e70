pub mod Places
pub mod Ways
pub mod Ties
pub mod Operations
pub mod Bytes
pub mod Boundary
