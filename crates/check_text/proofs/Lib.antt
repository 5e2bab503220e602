-- lines by number
mod WalkLemmas
-- the first fault of a script
mod FirstLemmas
-- what a sentence is made of
mod SentenceLemmas
-- the word in a column
mod WordLemmas
