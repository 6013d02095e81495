pub mod Words
pub mod Quoted
pub mod Operands
pub mod Places
