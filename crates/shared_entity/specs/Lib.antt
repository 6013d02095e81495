pub mod Opening
pub mod Reads
pub mod Answering
