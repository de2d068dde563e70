pub mod Word
pub mod Outs
pub mod Setting
