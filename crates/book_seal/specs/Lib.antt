-- what is finished of a text, and what its seal is
pub mod Seals
-- why a text has no seal
pub mod Refusals
-- the books of runs that were cut, and their seals
pub mod CutBooks
-- how far a seal has come (of private contracts)
pub mod SealSteps
