pub mod LeastLemmas
pub mod RuleLemmas
pub mod RivalRowLemmas
pub mod HistoryLemmas
pub mod PairLemmas
pub mod HeldLemmas
pub mod WallRulesLemmas
