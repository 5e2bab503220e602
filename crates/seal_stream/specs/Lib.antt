-- what a seal that is written while its book is read comes to
pub mod Seals
-- how far such a seal has come (of private contracts)
pub mod Steps
