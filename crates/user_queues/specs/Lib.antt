pub mod Queue
pub mod Standing
pub mod Shared
pub mod SharedStanding
pub mod Opened
pub mod Names
