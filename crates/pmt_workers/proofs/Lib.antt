pub mod AnswerLemmas
pub mod CutLemmas
pub mod ResultLemmas
