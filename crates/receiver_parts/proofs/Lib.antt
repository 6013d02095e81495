pub mod ImageLemmas
pub mod ReceivedFileLemmas
pub mod LayLemmas
pub mod FindingLemmas
pub mod NakLemmas
pub mod ResponseLemmas
pub mod SumLemmas
