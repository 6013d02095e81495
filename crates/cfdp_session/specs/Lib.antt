pub mod Flat
pub mod Kept
pub mod Orders
pub mod Plans
pub mod Steps
pub mod Turning
pub mod Turns
pub mod Running
