pub mod ScheduleFacts
