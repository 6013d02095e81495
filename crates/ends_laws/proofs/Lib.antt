pub mod EntryFacts
pub mod SenderFacts
pub mod ReceiverFacts
pub mod KeptFacts
