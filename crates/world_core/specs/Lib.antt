pub mod Opening
pub mod Routed
pub mod Worlds
pub mod Answering
pub mod Posts
pub mod Standing
