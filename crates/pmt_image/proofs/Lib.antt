pub mod Prelude
pub mod OverLemmas
pub mod LayLemmas
pub mod CopyLemmas
pub mod CountLemmas
pub mod ChoiceLemmas
pub mod NearLemmas
pub mod StoreLemmas
pub mod SpanLemmas
pub mod WalkLemmas
pub mod ListingLemmas
pub mod WordLemmas
mod ReadBackLemmas
