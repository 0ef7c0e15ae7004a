pub mod Waiting
pub mod RaiseLemmas
pub mod BackLemmas
pub mod KeptLemmas
pub mod MarkingLemmas
pub mod LineLemmas
pub mod JoinLemmas
