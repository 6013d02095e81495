pub mod OpeningFacts
pub mod QueueFacts
pub mod ReadFacts
