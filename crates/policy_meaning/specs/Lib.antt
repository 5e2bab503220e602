-- what a policy says, fact by fact
pub mod Facts
-- what a policy may say and hardly means
pub mod Warnings
-- what it means for every run
pub mod Laws
-- a list of all that holds
pub mod Listed
-- what is of the policy
pub mod Known
