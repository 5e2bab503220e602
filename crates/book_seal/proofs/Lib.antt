pub mod FinishedLemmas
pub mod BegunLemmas
pub mod SealLemmas
pub mod ExactLemmas
pub mod CutLemmas
pub mod KnownLemmas
pub mod LawLemmas
pub mod BookSealLemmas
