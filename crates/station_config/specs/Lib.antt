pub mod Station
pub mod Settings
