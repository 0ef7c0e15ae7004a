pub mod CallerLemmas
pub mod EventTextsLemmas
pub mod IgnoringLemmas
