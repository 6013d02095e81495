mod OutcomeRows
mod Rows
pub mod Peers
pub mod NoteRows
