pub mod PlanFacts
pub mod HandFacts
pub mod CarryFacts
pub mod TakenFacts
pub mod OnFacts
pub mod FirstFacts
pub mod KeepFacts
