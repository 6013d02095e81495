pub mod Lineups
pub mod Counts
pub mod LineupLaws
