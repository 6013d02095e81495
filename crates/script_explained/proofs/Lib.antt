pub mod NameFacts
