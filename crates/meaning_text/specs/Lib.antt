-- the line of each
pub mod Sentences
-- what a line means for every run
pub mod Laws
