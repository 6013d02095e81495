pub mod Runs
pub mod Covered
pub mod Places
pub mod Blocks
