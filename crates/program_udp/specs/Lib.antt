pub mod Peers
pub mod Reaches
