pub mod GroupLemmas
pub mod Marks
pub mod MemberLemmas
pub mod RankLemmas
pub mod RankTables
pub mod MpiGroupLemmas
