pub mod Located
pub mod RoundTrip
