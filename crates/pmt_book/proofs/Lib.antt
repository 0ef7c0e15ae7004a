pub mod HistoryLemmas
pub mod BookLemmas
pub mod StoreBytes
pub mod TouchingLemmas
pub mod PersistLemmas
pub mod LiveLemmas
