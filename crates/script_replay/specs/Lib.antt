pub mod Texts
pub mod Sessions
pub mod Run
pub mod Running
