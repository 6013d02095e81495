pub mod RunLemmas
pub mod HistoryFacts
pub mod LogFacts
pub mod StepKeys
pub mod EventFacts
