-- the prefix of a policy under which a book is read
pub mod PrefixLemmas
-- chains of books under a prefix of a policy
pub mod StandLemmas
-- chains of books that go on under a policy that has grown
pub mod DayLemmas
