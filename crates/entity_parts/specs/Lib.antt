pub mod FirstLanes
pub mod Asking
pub mod Refusals
