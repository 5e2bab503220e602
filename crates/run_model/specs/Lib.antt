-- communicators with their grids, and those that constructors make
pub mod Comms
-- counted posts: the instances, communicators, outcomes and histories that they make
pub mod Posts
-- the same posts with what each member brought
pub mod Contributions
-- the posts that do not count, and why
pub mod Refusals
-- the book of the posts, which book is sound, and where one that is not goes wrong
pub mod Books
-- the form of a book's entries
pub mod EntryForms
-- what each process holds, directly or through others, with no history in it
pub mod Holding
-- laws over all lists of posts that count, and over their books
pub mod PostLaws
-- chains of books, each read under the policy after those before it, and laws over them
pub mod Chains
-- calls with their replies, and what a run has made
pub mod Runs
-- what is the same but for the room of buffers
pub mod Buffers
-- the one reply that is due to a call, and which runs are legal
pub mod Replies
-- what names only processes and datasets that the policy has
pub mod Known
-- what may be kept in place of a run
pub mod Proper
-- laws over all legal runs
pub mod RunLaws
-- what becomes of every collective that is full, after every legal run
pub mod Headline
-- chains of books, each under the policy of its own day, and a run behind them
pub mod Years
-- laws over two legal runs whose calls differ in values alone
pub mod Worlds
-- worked books
pub mod BookRows
-- a worked chain of books
pub mod ChainRows
-- worked runs
pub mod RunRows
-- worked pairs of runs whose calls differ in values alone
pub mod WorldRows
-- worked runs of each kind
pub mod KindRows
-- worked runs of types and operations
pub mod TypeRows
-- worked runs of rules and denials
pub mod WallRows
-- where the last communicators are made
pub mod RoomRows
-- worked policies of a later day
pub mod YearRows
