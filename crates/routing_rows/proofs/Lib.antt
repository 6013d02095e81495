pub mod WalkRows
pub mod RemoteRows
pub mod ConfigRows
pub mod TextRows
pub mod Rows
pub mod PduRows
