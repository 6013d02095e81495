pub mod Lists
pub mod Kept
mod Sources
pub mod Limits
