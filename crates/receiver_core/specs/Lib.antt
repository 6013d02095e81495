pub mod Core
pub mod PlanParts
pub use Rattle.cfdp_types.specs.Condition
pub use Rattle.cfdp_types.specs.ChecksumType
pub use Rattle.pdu_values.specs.Pdu
pub use Rattle.indications.specs.Words
pub use Rattle.modular_sum.specs.Sum
