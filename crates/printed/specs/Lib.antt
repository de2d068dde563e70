pub mod Numeral
pub mod Lines
pub mod Fill
pub mod Working
pub mod Examples
