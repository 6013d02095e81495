pub mod Refusal
pub mod Events
pub mod Timers
pub mod Logs
pub mod Examples
