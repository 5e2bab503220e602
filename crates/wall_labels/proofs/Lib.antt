pub mod KnownLemmas
pub mod OptionLemmas
pub mod RowLemmas
pub mod WallLabelsLemmas
