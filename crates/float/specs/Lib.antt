pub mod Nearest
pub mod Decimal
pub mod Written
pub mod Form
pub mod Operations
pub mod Bits
pub mod Working
pub mod Theorems
