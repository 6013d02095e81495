pub mod LegalSendings
pub mod SendingLaws
