pub mod Rows
pub mod Reaching
pub mod Storing
pub mod Deposits
