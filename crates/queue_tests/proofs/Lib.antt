pub mod EndedLists
pub mod FreshLanes
pub mod Turns
