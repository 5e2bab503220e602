-- the runs of a chain, read again
pub mod Runs
-- why one does not stand
pub mod Faults
-- all of them
pub mod Chains
-- the end of the one that is under way
pub mod Ends
-- words of private contracts
pub mod Steps
