pub mod Waits
pub mod Plays
pub mod Jobs
pub mod Ran
pub mod Rows
pub mod Asked
pub mod Large
