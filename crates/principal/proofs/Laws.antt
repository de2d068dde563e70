pub mod Principal
pub mod Tag
