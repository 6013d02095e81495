pub mod Acts
pub mod Clashes
pub mod Commands
pub mod Moments
pub mod Numbers
pub mod Windows
pub mod WindowLaws
