pub mod Amounts
pub mod Ends
pub mod Outcomes
pub mod Pages
pub mod Shown
pub mod History
pub mod Choices
