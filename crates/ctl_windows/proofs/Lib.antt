pub mod Counts
mod Rows
pub mod Looks
pub mod Settling
