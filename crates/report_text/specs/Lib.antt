-- the words of lines, and how a line is folded
pub mod Words
-- who holds what
pub mod Rows
-- who is in which communicator
pub mod Members
-- how each instance came out
pub mod Instances
-- whose results were sanitised
pub mod Sanitised
-- which instances wait, and for whom
pub mod Waits
-- why posts were barred and instances denied
pub mod Reasons
-- the whole text
pub mod Report
-- what a run gave, in a report on a later one
pub mod Given
-- what the runs of a chain gave, over all of them
pub mod GivenOnce
