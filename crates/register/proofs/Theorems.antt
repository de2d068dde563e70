pub mod OnBytes
pub mod Conservation
pub mod Places
