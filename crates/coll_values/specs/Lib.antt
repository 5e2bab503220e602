pub mod Forms
pub mod Instances
pub mod Laws
pub mod Lines
pub mod Rooms
pub mod Spaces
pub mod Stretches
pub mod Values
