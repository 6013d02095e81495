pub mod PassLists
pub mod Keeping
pub mod Answered
