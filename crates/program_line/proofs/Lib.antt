pub mod PerformLemmas
