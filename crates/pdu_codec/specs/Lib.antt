pub mod Heads
pub mod Parts
pub mod Writing
pub mod Laws
pub use Rattle.pdu_values.specs.Pdu
pub use Rattle.pdu_values.specs.Spelling
pub use Rattle.pdu_reading.specs.Reading
