pub mod Faults
pub mod Messages
pub mod Carrying
pub mod Depositing
