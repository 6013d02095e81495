pub mod ReceivingLaneRows
pub mod SendingLaneRows
pub mod LaneKeepingRows
pub mod HistoryRows
pub mod ReceptionRows
