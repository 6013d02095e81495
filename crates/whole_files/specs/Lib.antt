pub mod PartSteps
pub mod Links
pub mod Wholes
