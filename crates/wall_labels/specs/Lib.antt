pub mod Fuses
pub mod Known
pub mod Labels
pub mod Limits
pub mod Ops
pub mod Rows
