pub mod Rooms
pub mod Judges
