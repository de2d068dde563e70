pub mod Asking
pub mod Noting
pub mod NotingWays
pub mod Each
pub mod Sizes
pub mod Solving
