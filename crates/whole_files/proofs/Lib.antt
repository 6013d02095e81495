pub mod Cuts
pub mod Chains
pub mod PartFacts
pub mod Copies
pub mod Rows
