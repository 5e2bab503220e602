pub mod Charges
pub mod Fits
pub mod Grants
pub mod Inflows
pub mod Laws
pub mod Meanings
pub mod Star
pub mod Verdicts
