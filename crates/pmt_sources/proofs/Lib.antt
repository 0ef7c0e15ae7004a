mod FoundLemmas
mod LineLemmas
mod NamingLemmas
mod PlaceLemmas
