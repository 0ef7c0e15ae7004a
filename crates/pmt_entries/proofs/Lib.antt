pub mod FenceLemmas
pub mod LossLemmas
pub mod ScratchLemmas
pub mod SignLemmas
pub mod SiteLemmas
