pub mod ChainLemmas
pub mod LinkedLemmas
pub mod ThreadLemmas
pub mod FlushedLemmas
mod SlotLemmas
pub mod RowLemmas
pub mod WaitingLemmas
pub mod OpenLemmas
pub mod FencingLemmas
pub mod KeepingLemmas
