pub mod Books
pub mod Machines
pub mod Receipts
-- what is written at a call (of private contracts)
pub mod Writing
