pub mod Steps
pub mod Crash
pub mod Promise
pub mod Parts
pub mod Asked
pub mod Faults
pub mod Needed
pub mod Staying
