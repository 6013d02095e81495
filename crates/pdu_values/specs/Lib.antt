pub mod Pdu
pub mod Directive
pub mod Numbers
pub mod Tlvs
pub mod Requests
pub mod Spelling
pub use Rattle.cfdp_types.specs.Condition
pub use Rattle.cfdp_types.specs.ChecksumType
