pub mod Logs
pub mod Lane
pub mod Steps
pub mod Keeping
pub mod LaneLaws
pub mod Images
pub mod Glances
