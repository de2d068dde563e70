pub mod Answering
pub mod Hearing
pub mod Outsiders
pub mod Made
pub mod Grown
pub mod Filled
pub mod Solved
