pub mod Timers
pub mod Slots
