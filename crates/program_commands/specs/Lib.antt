pub mod Using
pub mod Endings
pub mod Unreading
pub mod Walls
pub mod Replaying
pub mod Running
pub mod Auditing
pub mod Serving
pub mod Earlier
pub mod Continuing
pub mod Sealing
pub mod Reporting
pub mod Checking
pub mod ChainLines
pub mod Chains
-- the policy of a chain's next run, and of its last
pub mod ChainWalls
-- what the runs before its last gave
pub mod ChainGiven
pub mod ChainReports
