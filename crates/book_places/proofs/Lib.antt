-- the first bad line, line by line
mod WalkLemmas
-- what was due there
mod DueLemmas
-- an end, read by itself
mod EndLemmas
-- what was due at the first bad entry
mod OwedLemmas
-- on which line of a book an entry stands
mod EntryLemmas
-- what is found of a book is found of its text
mod PlaceLemmas
