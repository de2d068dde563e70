pub mod Entry
pub mod Tables
