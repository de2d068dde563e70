pub mod Entry
pub mod Tree
pub mod Index
pub mod IndexLaws
pub mod EnterLaws
pub mod Working
