pub mod Folders
pub mod Paths
pub mod Stations
pub mod Sources
