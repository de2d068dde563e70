pub mod Requests
pub mod Placing
pub mod Written
pub mod Kept
pub mod Ways
