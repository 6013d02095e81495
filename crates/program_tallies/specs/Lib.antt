pub mod Kinds
pub mod Replies
pub mod Counts
pub mod Files
pub mod Whole
