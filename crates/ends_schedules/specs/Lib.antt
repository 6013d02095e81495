pub mod Schedules
pub mod ScheduleLaws
