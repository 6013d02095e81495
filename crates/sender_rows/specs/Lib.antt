pub mod SendingRows
pub mod SendingPduRows
pub mod SendingRefusalRows
pub mod SendingTimerRows
pub mod ClosureRows
pub mod LargeRows
