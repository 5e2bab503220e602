-- escaped text
pub mod EscapeLemmas
-- texts that are written piece by piece
pub mod PieceLemmas
pub mod TableLemmas
