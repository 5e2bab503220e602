pub mod Instances
pub mod Keyed
pub mod Laws
pub mod Lists
pub mod Queues
pub mod Spares
pub mod Waiting
