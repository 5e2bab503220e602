-- the text of a book
pub mod Text
-- which line is which entry
pub mod Lines
-- which text is which book, and the fault of each other
pub mod Reading
-- where and why a text is no book
pub mod Faults
-- which entries have a text of their own
pub mod Laws
-- which books can be written, and how the writing went
pub mod Writing
-- how far the check of a book has come, and what its fault says
pub mod Checks
-- what is due behind the entries of a book
pub mod Dues
-- how far an audit has come, and how it goes on by one entry
pub mod Audits
-- how lines are read one after the other, where memory may run out (of private contracts)
pub mod LineSteps
