pub mod Demand3
pub mod Secret
pub mod Paper
pub mod PaperLaw
