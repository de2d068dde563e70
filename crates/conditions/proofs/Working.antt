pub mod Compiled
pub mod PaceExpression
pub mod PaceProgram
pub mod Reach
pub mod TieExpression
pub mod TieProgram
pub mod TieTable
