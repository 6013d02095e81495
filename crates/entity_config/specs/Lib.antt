pub mod Settings
pub mod Reference
