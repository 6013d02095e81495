pub mod Fault
pub mod FixedHeader
pub mod Items
pub mod Reading
pub mod FirstFault
