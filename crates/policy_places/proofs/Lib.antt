-- where lines end, byte by byte
mod PrefixLemmas
-- what a document has, over the lists that the code walks
mod ViewLemmas
-- the line of a sign
mod PlaceLemmas
-- which keys are known
mod KeyLemmas
-- a document that says a record
mod RecordLemmas
-- its signs are its faults
mod LawLemmas
-- a document that lacks a key shows it
mod MissingLemmas
-- each fault has its line, or what is missing has none
mod FoundLemmas
-- where a sign is shown, its word is named
mod NamedLemmas
