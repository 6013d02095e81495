pub mod SumLemmas
pub mod PieceLemmas
