pub mod Explained
pub mod Spots
pub mod Scans
