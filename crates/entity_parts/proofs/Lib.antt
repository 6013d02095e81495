pub mod FirstFacts
pub mod RefusalRows
