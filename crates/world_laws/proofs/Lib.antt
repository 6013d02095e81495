pub mod RouteHomes
pub mod KeyFacts
pub mod EndFacts
pub mod WordFacts
