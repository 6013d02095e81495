pub mod LineupRows
pub mod OrderFacts
pub mod ChoiceFacts
pub mod RunRows
