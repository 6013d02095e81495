pub mod Moments
pub mod Letters
pub mod Members
pub mod Shared
pub mod StatusLines
pub mod EventLines
pub mod CountLines
