pub mod TextFacts
pub mod TextRows
pub mod RoundFacts
pub mod RoundRows
pub mod HistoryRows
pub mod LaneFacts
