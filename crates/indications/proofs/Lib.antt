pub mod WordLemmas
pub mod LaneLemmas
pub mod WordRows
pub mod LaneRows
