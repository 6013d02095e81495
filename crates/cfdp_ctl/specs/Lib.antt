pub mod Exits
pub mod Resending
