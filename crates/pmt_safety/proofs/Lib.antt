pub mod StoreLemmas
pub mod SafetyLemmas
pub mod RedundantLemmas
pub mod KeptLemmas
pub mod VerdictLemmas
pub mod MarkingLemmas
