-- where a text is no book, and what was due there
pub mod Places
-- words of private contracts
pub mod Ends
-- where a text is no sound book
pub mod Books
-- what was due at the first bad entry of a book
pub mod Owed
-- the line that tells what is found of a text
pub mod Sentences
