pub mod Faults
pub mod Texts
pub mod Values
pub mod Shown
pub mod Walk
pub mod Reads
