pub mod WorkedSchedules
pub mod ScheduleRows
pub mod OtherSchedules
pub mod SayingRows
pub mod KeptRows
pub mod LaneEndRows
pub mod MoveRows
pub mod ClosureSchedules
