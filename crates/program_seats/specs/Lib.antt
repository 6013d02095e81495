pub mod Outboxes
pub mod Seating
