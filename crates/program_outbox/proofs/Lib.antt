pub mod OutboxRows
pub mod OutgoingRows
pub mod TurnFacts
pub mod WindowRows
