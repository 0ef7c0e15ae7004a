pub mod CausingLemmas
pub mod CountingLemmas
pub mod FramingLemmas
pub mod NumberingLemmas
