pub mod AppearLemmas
pub mod GrownLemmas
pub mod SourceRunLemmas
