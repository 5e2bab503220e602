pub mod Faults
pub mod Grids
pub mod Laid
pub mod Laws
