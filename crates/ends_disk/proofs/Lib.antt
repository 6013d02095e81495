pub mod HistoryFacts
pub mod Rows
