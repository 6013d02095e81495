pub mod WordFacts
pub mod UserFacts
pub mod PieceFacts
pub mod LineFacts
pub mod Worked
