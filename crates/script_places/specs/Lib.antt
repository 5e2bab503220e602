-- where the fault of a line stands
pub mod Places
-- the faults of a script
pub mod Found
-- words of private contracts
pub mod Cuts
-- what holds of all lines
pub mod Laws
