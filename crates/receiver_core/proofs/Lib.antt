pub mod PlanLemmas
pub mod ChangeLemmas
pub mod FirstLemmas
