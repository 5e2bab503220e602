pub mod Files
pub mod Causes
