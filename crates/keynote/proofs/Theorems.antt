pub mod Demand3
pub mod Instances
pub mod More
pub mod Paper
pub mod PaperInstances
