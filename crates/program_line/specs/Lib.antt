pub mod Kinds
pub mod Chains
pub mod Performing
