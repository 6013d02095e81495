pub mod KeptLines
pub mod Rings
