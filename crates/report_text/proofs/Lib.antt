-- names by number, and texts of numbered things
pub mod WordLemmas
-- the communicators of a state
pub mod StateLemmas
pub mod ReportTextLemmas
pub mod TellLemmas
-- what the runs of a chain gave
pub mod GivenLemmas
