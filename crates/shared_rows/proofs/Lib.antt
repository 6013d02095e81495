pub mod HeldRows
pub mod ImageRows
pub mod AnswerRows
pub mod OpeningRows
pub mod TraceRows
pub mod ReadRows
pub mod GlanceRows
