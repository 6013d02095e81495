pub mod FreshLanes
