-- The working definitions, which judge as the program does.
pub mod Judging
pub mod Steep
pub mod Fit
pub mod FitProgram
pub mod Saying
