pub mod Entries
pub mod Conservation
pub mod Refusals
pub mod Oneself
pub mod Places
pub mod Find
pub mod Layout
pub mod OnBytes
