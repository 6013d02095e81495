pub mod Samples
pub mod QueueRows
pub mod ViewRows
pub mod RuleRows
pub mod PassRows
pub mod EndRows
