pub mod ResponseFacts
pub mod SendingLegal
pub mod SendingLength
