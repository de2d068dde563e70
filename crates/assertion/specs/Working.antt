pub mod Field
pub mod FieldWays
pub mod Reading
pub mod ReadingWays
pub mod OnePass
pub mod StandIn
