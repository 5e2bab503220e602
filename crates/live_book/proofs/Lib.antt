pub mod WritingLemmas
pub mod LiveBookLemmas
