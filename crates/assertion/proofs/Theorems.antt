pub mod Fielded
pub mod OnePass
pub mod Reads
