pub mod CutLemmas
pub mod LineLemmas
pub mod PromptLemmas
pub mod RequestLemmas
pub mod KeepLemmas
pub mod SessionLemmas
pub mod SittingLemmas
pub mod ServedLemmas
