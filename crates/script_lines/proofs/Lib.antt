pub mod SettingFacts
pub mod Rows
