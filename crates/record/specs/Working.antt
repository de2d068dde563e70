pub mod Moves
pub mod Ways
pub mod Groups
pub mod Ties
pub mod Tables
pub mod Entry
