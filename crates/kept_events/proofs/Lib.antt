pub mod Rows
pub mod RingFacts
