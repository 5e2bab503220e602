pub mod Histories
pub mod Least
pub mod Rules
