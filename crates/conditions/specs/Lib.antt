pub mod Table
pub mod Word
pub mod Parsed
pub mod Operand
pub mod Expression
pub mod Program
pub mod Working
pub mod Examples
