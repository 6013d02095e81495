pub mod Answers
pub mod Outcomes
pub mod Remarks
pub mod Notes
