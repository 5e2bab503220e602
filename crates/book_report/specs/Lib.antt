-- which process holds what after which entry of a book, and how it came to that
pub mod Held
-- places in a book, posts and instances
pub mod Places
-- how far a walk through a book has come
pub mod Walk
-- why posts were barred
pub mod Bars
-- why instances were denied
pub mod Denials
-- whose results were sanitised
pub mod Sanitised
-- how far a walk has come by that
pub mod Clean
-- which instances wait for members
pub mod Waits
-- the posts of members on a communicator
pub mod Turns
-- how the reason of a denial is found
pub mod Reasons
-- how far one walk has come by all of this
pub mod Told
-- what a report has
pub mod Report
