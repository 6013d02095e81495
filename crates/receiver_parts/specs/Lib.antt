pub mod Offsets
pub mod ReceivedFile
pub mod Finding
pub mod Naks
pub mod ControlBlock
pub mod Response
pub mod FileChange
pub mod Steps
