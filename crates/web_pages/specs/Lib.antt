pub mod Answers
pub mod Commands
pub mod Guard
pub mod Headers
pub mod Page
pub mod Routes
pub mod Settings
