pub mod ItemLaws
pub mod FieldLaws
pub mod WriteLaws
