pub mod Document
pub mod Families
pub mod Hindered
pub mod Labels
pub mod Metrics
pub mod Numbers
pub mod Starts
pub mod States
