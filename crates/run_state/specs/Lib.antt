-- the value of a book in clauses
pub mod Entries
-- what contracts see of a state: look-ups, and what follows from them for the next post
pub mod Views
-- the posts that a state stands for, and what it tells of the next
pub mod Stands
-- what entering a post makes of it
pub mod Entering
-- a member's next post, before it is counted
pub mod Upcoming
-- communicators with their grids beside them
pub mod Laid
-- the communicators that a constructor makes
pub mod Making
-- the parts of a grid
pub mod Parts
