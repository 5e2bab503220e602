pub mod ProbeLemmas
pub mod CutLemmas
pub mod EndLemmas
pub mod ScriptLemmas
pub mod PlaceLemmas
pub mod AnswerLemmas
