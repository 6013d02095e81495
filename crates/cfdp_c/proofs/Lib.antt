pub mod PutFacts
pub mod Rows
pub mod Values
