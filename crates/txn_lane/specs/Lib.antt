pub mod Transactions
pub mod LaneCode
pub mod Handing
pub mod Stepping
pub mod RunningCode
