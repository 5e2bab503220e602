pub mod LineLemmas
pub mod CutLemmas
pub mod ReadingLemmas
pub mod StayLemmas
pub mod SourceLemmas
