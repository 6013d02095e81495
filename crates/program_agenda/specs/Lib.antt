pub mod Expiries
pub mod Fates
pub mod Links
pub mod Paces
pub mod PaceLaws
pub mod Places
pub mod Stores
pub mod Turns
