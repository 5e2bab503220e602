pub mod StepLemmas
pub mod DueLemmas
pub mod CheckLemmas
pub mod AuditLemmas
pub mod TextLemmas
pub mod ReadLemmas
pub mod FoundLemmas
pub mod BookLemmas
pub mod AgainLemmas
pub mod TextAgainLemmas
pub mod FormLemmas
pub mod RangeLemmas
pub mod WriteLemmas
pub mod NamedLemmas
pub mod FaultLemmas
pub mod SpelledRowProofs
mod SameLemmas
pub mod AuditBookLemmas
