pub mod HandlerLemmas
pub mod LimitFacts
pub mod PutLemmas
pub mod Rows
pub mod StepLemmas
