pub mod Laws
pub mod Working
