pub mod Condition
pub mod ChecksumType
pub mod Handlers
pub mod Params
pub mod Put
pub mod Steps
pub mod Reference
