pub mod Prefixes
pub mod Ends
pub mod Parts
pub mod Signs
pub mod Places
pub mod Named
pub mod Laws
