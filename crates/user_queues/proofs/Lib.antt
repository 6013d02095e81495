pub mod QueueFacts
pub mod OpeningFacts
pub mod MarkFacts
