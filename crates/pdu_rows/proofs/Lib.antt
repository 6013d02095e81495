pub mod Rows
pub mod LargeRows
pub mod ValueRows
