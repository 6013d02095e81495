pub mod OpeningFacts
pub mod WorldFacts
pub mod ListFacts
pub mod PostFacts
pub mod StandFacts
