pub mod Only
pub mod Rounded
pub mod Each
pub mod Exponent
pub mod Power
pub mod Held
pub mod Formed
pub mod Examples
