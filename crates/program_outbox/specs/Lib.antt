pub mod Outboxes
pub mod Outgoings
pub mod Windows
