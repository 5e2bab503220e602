-- the word at a place of a line
pub mod Words
-- the sentence of a fault
pub mod Sentences
-- the lines of a script's faults
pub mod Lines
-- what holds of all lines
pub mod Laws
-- the line of a policy's fault
pub mod Policies
