pub mod OutboxRows
pub mod SeatRows
