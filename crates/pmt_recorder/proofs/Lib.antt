pub mod AppendLemmas
pub mod SealLemmas
pub mod RecordLemmas
pub mod PlaceLemmas
