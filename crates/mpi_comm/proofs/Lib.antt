pub mod SortLemmas
pub mod SplitLemmas
pub mod MpiCommLemmas
