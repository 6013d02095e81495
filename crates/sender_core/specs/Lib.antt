pub mod Remaining
pub mod ControlBlock
pub mod Core
