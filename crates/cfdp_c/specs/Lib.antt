pub mod Owned
pub mod Names
pub mod Codes
pub mod Calls
pub mod Explaining
pub mod Setting
