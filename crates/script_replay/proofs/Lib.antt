pub mod RunFacts
pub mod BufferFacts
pub mod SessionFacts
pub mod Rows
