-- names by number
pub mod NameLemmas
-- the datasets of a class that are left to name
mod MemberLemmas
-- what facts and warnings name
mod KnownLemmas
