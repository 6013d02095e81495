pub mod CoreLemmas
pub mod ResponseData
pub mod PlanLemmas
pub mod OpenLemmas
