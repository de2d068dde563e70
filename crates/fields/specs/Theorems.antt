pub mod Together
pub mod Words
pub mod Constanted
pub mod Versioned
