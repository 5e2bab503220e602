pub mod Asks
pub mod Comms
pub mod Sorting
pub mod Splits
