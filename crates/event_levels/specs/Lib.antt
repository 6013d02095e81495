pub mod Levels
pub mod Events
