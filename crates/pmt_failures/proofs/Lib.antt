pub mod MendingLemmas
pub mod ShowingLemmas
pub mod UnwritingLemmas
pub mod WrittenLemmas
