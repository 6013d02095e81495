pub mod Waits
