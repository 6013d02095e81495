pub mod Headings
pub mod Names
pub mod Pieces
pub mod Recordings
pub mod Sights
