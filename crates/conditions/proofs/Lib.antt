pub mod TableWays
pub mod EmitWays
pub mod LeafWays
pub mod ExpressionWays
pub mod ProgramWays
pub mod Working
