pub mod RoundTrip
pub mod Torn
pub mod PowerCut
pub mod Determined
