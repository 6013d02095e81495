pub mod Refusal
pub mod Places
pub mod Routes
pub mod RouteLaws
