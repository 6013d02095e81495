pub mod Lists
pub mod FaultTables
pub mod Tables
pub mod Numbers
pub mod Distinct
pub mod ReadLimits
pub mod RemoteLimits
