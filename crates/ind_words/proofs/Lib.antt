pub mod SegmentLemmas
pub mod ReadingLemmas
