pub mod ElementLemmas
pub mod FitLemmas
pub mod LoopLemmas
pub mod ReadingLemmas
pub mod BuilderLemmas
pub mod MpiElemsLemmas
