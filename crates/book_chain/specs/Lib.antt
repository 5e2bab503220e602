-- what a chain of earlier books comes to
pub mod Chain
-- the policy of a later day
pub mod Days
-- the prefix of a policy under which a book is read: words of private contracts
pub mod Prefixes
