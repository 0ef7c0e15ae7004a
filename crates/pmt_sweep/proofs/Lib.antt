pub mod WordsLemmas
pub mod ReadingLemmas
mod FlushedLemmas
mod FirstLemmas
mod KnownLemmas
mod ClflushLemmas
mod FenceLemmas
mod KeepingLemmas
pub mod JudgedLemmas
mod OldestLemmas
mod LineLemmas
mod EntryLemmas
mod LatestLemmas
mod OrderLemmas
mod NotedLemmas
mod MarkingLemmas
mod MarkedLemmas
mod LostLemmas
pub mod FindingLists
pub mod JoiningLemmas
mod MixingLemmas
pub mod PassKnownLemmas
pub mod FlagLemmas
pub mod VerdictLemmas
pub mod GrowingLemmas
