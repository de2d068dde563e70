pub mod Content
pub mod Determined
pub mod PowerCut
pub mod RoundTrip
pub mod Torn
