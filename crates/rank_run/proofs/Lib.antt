pub mod WaitLemmas
pub mod CountLemmas
pub mod PlayLemmas
pub mod RunLemmas
pub mod EndLemmas
pub mod RowProofs
pub mod AskedLemmas
