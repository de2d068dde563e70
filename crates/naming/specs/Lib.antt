pub mod Source
pub mod String
pub mod Authorizer
pub mod Licensees
pub mod Naming
pub mod Fault
pub mod Working
pub mod Theorems
