pub mod PlaceFacts
pub mod RouteFacts
pub mod NumberFacts
