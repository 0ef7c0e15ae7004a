pub mod LaneLemmas
pub mod RunLemmas
pub mod DigitLemmas
pub mod DecimalLemmas
