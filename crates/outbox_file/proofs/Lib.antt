pub mod TextFacts
pub mod ReadFacts
pub mod LoopFacts
pub mod FileFacts
pub mod Rows
