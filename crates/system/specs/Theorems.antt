pub mod Stocked
pub mod Started
pub mod Marked
pub mod Starting
