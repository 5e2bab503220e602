-- a text that is cut into lines while it comes
pub mod Cuts
-- what is known of a book behind its finished lines
pub mod Readings
-- what an audit says of a source
pub mod Audits
-- a source that was read to its end, and what a sound book came to
pub mod Passes
