pub mod Numbers
pub mod WordFacts
pub mod Texts
pub mod QuotedRows
