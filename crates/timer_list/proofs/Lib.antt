pub mod SlotLemmas
pub mod VacateLemmas
pub mod ListLemmas
pub mod Rows
