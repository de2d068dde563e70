pub mod Numbered
pub mod Clauses
pub mod Arithmetic
pub mod Searching
pub mod Operating
pub mod Packing
