pub mod Faults
pub mod FolderStore
pub mod MemoryStore
pub mod Names
