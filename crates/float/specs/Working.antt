pub mod Patterns
pub mod Neighbours
pub mod Converting
pub mod Reading
pub mod Computing
pub mod Packing
