pub mod SettingFacts
pub mod ScriptFacts
pub mod Rows
