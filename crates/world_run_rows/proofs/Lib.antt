pub mod PostRows
pub mod OpeningRows
pub mod WorldRows
pub mod LawRows
pub mod StandRows
