pub mod Groups
pub mod Ranks
