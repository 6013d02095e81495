pub mod LegalReceptions
pub mod ReceptionLaws
