pub mod CountedLemmas
mod DroppedLemmas
pub mod ExactFailures
pub mod ExactKeys
pub mod FenceLemmas
pub mod FlushingLemmas
pub mod GroupLemmas
pub mod KeyLemmas
pub mod LateLemmas
pub mod MemberLemmas
