pub mod SortLemmas
pub mod StableLemmas
pub mod GatherLemmas
pub mod WholeLemmas
