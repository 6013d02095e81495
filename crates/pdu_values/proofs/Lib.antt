pub mod Numbers
pub mod WidthLaws
pub mod FitLaws
pub mod ValueRows
