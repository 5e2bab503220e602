pub mod ChainLemmas
pub mod ChainRunsLemmas
